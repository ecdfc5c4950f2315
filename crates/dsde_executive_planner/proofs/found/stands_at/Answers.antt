use Rattle.dsde_executive_planner.proofs.Searching.{there-at}
use Rattle.dsde_executive_planner.proofs.found.stands_at.Goals as goal

pub returns-in-Some : goal.returns-in-Some
returns-in-Some c same =
    there-at c.args.name.now c.args.entries.now c.args.index c.in-Some.ensures.lookup.3.0 c.in-Some.entry.now c.in-Some.ensures.lookup.1 (c.is_same.ensures.0 same)
