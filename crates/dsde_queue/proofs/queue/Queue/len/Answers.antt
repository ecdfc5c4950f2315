use Rattle.std.proofs.Common.{length, sym, ap, ◌∙◌, arith}
use Rattle.dsde_queue.proofs.Due.{few_due}
use Rattle.dsde_queue.proofs.Sorting.{length-in_order, ordered_in_order}
use Rattle.dsde_queue.proofs.queue.Queue.len.Goals as goal

pub returns-clause-count : goal.returns-clause-count
returns-clause-count c = c.len.ensures ∙ c.self.inside.pairs.ok.0 ∙ sym (length-in_order c.self.inside.pairs.items) ∙ ap (λ q. length q.pairs) c.self.view_is

pub returns-clause-due : goal.returns-clause-due
returns-clause-due c =
    let count = c.len.ensures ∙ c.self.inside.pairs.ok.0 ∙ sym (length-in_order c.self.inside.pairs.items) ∙ ap (λ q. length q.pairs) c.self.view_is in
    omega (arith, count, few_due c.args.self.now.pairs)

pub returns-clause-ordered : goal.returns-clause-ordered
returns-clause-ordered c = rw (← c.self.view_is) (ordered_in_order c.self.inside.pairs.items)
