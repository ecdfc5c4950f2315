use Rattle.std.proofs.Common.{ℕ, ◌+◌, ◌≤◌, length, List, Option, sym, ap, subst, ◌∙◌}
use Rattle.dsde_bank.specs.declared.handle.Handle.{Handle}
use Rattle.dsde_core_flat.specs.given.grove.Grove.{Grove, spot, value_of}
use Rattle.dsde_core_flat.specs.declared.spot.Spot.{Spot}
use Rattle.dsde_core_flat.specs.Scheduled.{IsScheduledBut, scheduled}
use Rattle.dsde_core_flat.specs.Shown.{leaf_in}
use Rattle.dsde_core_flat.specs.lemmas.Waiting.{scheduled-longer, step-moved}
use Rattle.dsde_core_moves.proofs.Valued.{live-at, valued-here}
use Rattle.dsde_core_moves.proofs.move_held.put_moved.Goals as goal

pub put_leaf-requires : goal.put_leaf-requires
put_leaf-requires g c = live-at (spot c.args.grove.now c.args.handle) c.requires.live

pub returns-clause-waits : goal.returns-clause-waits
returns-clause-waits g c rest but =
    let new = c.put_leaf.new.grove in
    let here = ap (λ (own : Grove Spot). value_of own c.args.handle) c.put_leaf.ensures.put ∙ valued-here c.args.grove.now c.args.handle c.args.moved c.requires.live in
    let pairs = c.schedule.ensures ∙ ap (λ (held : Option Spot). scheduled c.args.handle (leaf_in held).next c.args.queue.now.pairs) (sym here) in
    subst (IsScheduledBut new rest) (sym pairs)
    (step-moved c.args.grove.now new c.args.handle c.args.moved rest c.args.queue.now.pairs c.requires.live c.put_leaf.ensures.put but)

pub returns-clause-longer : goal.returns-clause-longer
returns-clause-longer g c =
    subst (λ (pairs : List (ℕ × Handle)). length pairs ≤ length c.args.queue.now.pairs + 1) (sym c.schedule.ensures)
    (scheduled-longer c.args.handle c.args.moved.next c.args.queue.now.pairs)
