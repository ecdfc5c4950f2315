use Rattle.std.proofs.Common.{ℕ, List, sym, ap, subst, ◌∙◌}
use Rattle.dsde_bank.specs.declared.handle.Handle.{Handle}
use Rattle.dsde_core_flat.specs.Scheduled.{IsScheduled, scheduled}
use Rattle.dsde_core_flat.proofs.Planting.{planted-due, planted-leaf}
use Rattle.dsde_core_flat.proofs.planted.plant_leaf.Goals as goal

pub returns-clause-stands : goal.returns-clause-stands
returns-clause-stands c = planted-leaf c.in_ok-grove.grove c.in_ok-grove.root c.args.leaf c.in_ok-grove.ensures.birth c.in_ok-grove.ensures.parts

pub returns-clause-scheduled : goal.returns-clause-scheduled
returns-clause-scheduled c =
    subst (IsScheduled c.in_ok-grove.grove)
    (sym (c.schedule.ensures ∙ ap (λ (pairs : List (ℕ × Handle)). scheduled c.in_ok-grove.root c.args.leaf.next pairs) (c.in_ok-reserve.ensures.kept ∙ c.new-queue.ensures)))
    (planted-due c.in_ok-grove.grove c.in_ok-grove.root c.args.leaf c.in_ok-grove.ensures.birth c.in_ok-grove.ensures.parts)
