use Rattle.std.proofs.Common.{◌≡◌, ◌++◌, ℕ, List, sym, ap, ◌∙◌, append-nil}
use Rattle.dsde_bank.specs.declared.handle.Handle.{Handle}
use Rattle.dsde_queue.specs.Queue.{Queue, handles}
use Rattle.dsde_core_flat.specs.Due.{due_after}
use Rattle.dsde_core_flat.proofs.Taking.{none-taken, none-at}
use Rattle.dsde_core_flat.proofs.due.take_due.Goals as goal

pub returns-clause-list : goal.returns-clause-list
returns-clause-list g c =
    let none = none-taken c.args.time c.loop-handle.queue c.take_at.new.queue c.take_at.result c.take_at.ensures.taken c.in_default.is in
    let rest = none-at c.args.time c.loop-handle.queue.pairs c.take_at.ensures.ordered c.loop-handle.invariant.from none.0 in
    sym (append-nil c.loop-handle.list.items)
    ∙ ap (λ (pairs : List (ℕ × Handle)). c.loop-handle.list.items ++ due_after c.args.grove.now c.args.time c.loop-handle.last (handles pairs)) (sym rest.0)
    ∙ c.loop-handle.invariant.list

pub returns-clause-pairs : goal.returns-clause-pairs
returns-clause-pairs g c =
    let none = none-taken c.args.time c.loop-handle.queue c.take_at.new.queue c.take_at.result c.take_at.ensures.taken c.in_default.is in
    let rest = none-at c.args.time c.loop-handle.queue.pairs c.take_at.ensures.ordered c.loop-handle.invariant.from none.0 in
    ap (λ (queue : Queue). queue.pairs) none.1 ∙ sym rest.1 ∙ c.loop-handle.invariant.later
