use Rattle.std.proofs.Common.{List, ℕ, ◌+◌, ◌≤◌, length, refl, sym, ap, subst, ◌∙◌}
use Rattle.dsde_bank.specs.declared.handle.Handle.{Handle}
use Rattle.dsde_core_flat.specs.declared.spot.Spot.TheVariants as spot_variant
use Rattle.dsde_core_flat.specs.Scheduled.{scheduled}
use Rattle.dsde_core_flat.specs.Scheduled.{IsScheduledBut}
use Rattle.dsde_core_flat.specs.lemmas.Waiting.{leaf-waits, scheduled-longer}
use Rattle.dsde_core_flat.proofs.grafting.grow_leaf.Goals as goal

pub returns-clause-waits : goal.returns-clause-waits
returns-clause-waits g c waiting but =
    let grown = c.in_ok-handle.ensures.grown in
    subst (IsScheduledBut c.grow.new.grove waiting) (sym (c.schedule.ensures ∙ ap (λ (pairs : List (ℕ × Handle)). scheduled c.in_ok-handle.handle c.args.leaf.next pairs) c.in_ok-reserve.ensures.kept))
    (leaf-waits c.args.grove.now c.grow.new.grove c.args.parent c.args.name (spot_variant.Leaf c.args.leaf) c.in_ok-handle.handle (record { names = grown.above.path }) grown c.in_ok-handle.ensures.fresh refl waiting c.args.queue.now.pairs c.args.leaf refl but)

pub returns-clause-longer : goal.returns-clause-longer
returns-clause-longer g c =
    subst (λ (pairs : List (ℕ × Handle)). length pairs ≤ length c.args.queue.now.pairs + 1)
    (sym (c.schedule.ensures ∙ ap (λ (pairs : List (ℕ × Handle)). scheduled c.in_ok-handle.handle c.args.leaf.next pairs) c.in_ok-reserve.ensures.kept))
    (scheduled-longer c.in_ok-handle.handle c.args.leaf.next c.args.queue.now.pairs)
