use Rattle.std.proofs.Common.{sym, subst}
use Rattle.std.proofs.lemmas.Map.Iter.{iter_end}
use Rattle.dsde_executive_plans.specs.given.structure.Survival.{IsInOrder}
use Rattle.dsde_executive_planner.proofs.Searching.{listed-in-order}
use Rattle.dsde_executive_planner.proofs.entries.listed.Goals as goal

pub returns-clause-order : goal.returns-clause-order
returns-clause-order c =
    let all = iter_end (λ own. own) c.args.map.entries c.loop-name.yielded c.into_iter-name-iterator.result c.loop-name.name-iterator c.next.new.self c.next.result c.into_iter-name-iterator.ensures.into_iter_gives.0 c.loop-name.yielded_by c.in-None.is c.next.ensures.steps in
    subst IsInOrder (sym c.loop-name.invariant) (listed-in-order c.args.map.entries c.loop-name.yielded all.0 c.requires)
