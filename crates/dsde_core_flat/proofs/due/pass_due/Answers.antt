use Rattle.std.proofs.Common.{◌≡◌, sym, ap, ◌∙◌}
use Rattle.dsde_queue.specs.Queue.{Queue}
use Rattle.dsde_core_flat.proofs.Taking.{none-taken, none-at}
use Rattle.dsde_core_flat.proofs.due.pass_due.Goals as goal

pub returns-clause-pairs : goal.returns-clause-pairs
returns-clause-pairs c =
    let none = none-taken c.args.time c.loop-handle.queue c.take_at.new.queue c.take_at.result c.take_at.ensures.taken c.in_default.is in
    let rest = none-at c.args.time c.loop-handle.queue.pairs c.take_at.ensures.ordered c.loop-handle.invariant.from none.0 in
    ap (λ (queue : Queue). queue.pairs) none.1 ∙ sym rest.1 ∙ c.loop-handle.invariant.later
