use Rattle.std.proofs.Common.{◌≡◌, drop}
use Rattle.dsde_executive_plans.specs.Layout.{tied}
use Rattle.dsde_executive_planner.proofs.drawn.tied.Given as goal

abbrev pub invariant-loop-placed : goal.invariant-loop-placed
invariant-loop-placed l = tied l.entries (drop l.placed-index l.links) ≡ tied l.entries l.links
