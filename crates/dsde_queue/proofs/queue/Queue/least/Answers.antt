use Rattle.std.proofs.Common.{◌∙◌, ap, slice_get}
use Rattle.dsde_queue.specs.Queue.{first_of}
use Rattle.dsde_queue.proofs.Sorting.{ordered_in_order}
use Rattle.dsde_queue.proofs.QueueLemmas.{first_of-heap}
use Rattle.dsde_queue.proofs.queue.Queue.least.Goals as goal

pub returns-clause-first : goal.returns-clause-first
returns-clause-first c =
    c.copied.ensures ∙ c.first.ensures.value ∙ ap (λ l. slice_get l 0) c.deref.ensures.value
    ∙ first_of-heap c.self.inside.pairs.items c.self.invariant ∙ ap (λ q. first_of q.pairs) c.self.view_is

pub returns-clause-ordered : goal.returns-clause-ordered
returns-clause-ordered c = rw (← c.self.view_is) (ordered_in_order c.self.inside.pairs.items)
