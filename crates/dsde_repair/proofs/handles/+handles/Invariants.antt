use Rattle.std.proofs.Common.{◌≡◌, ◌++◌, drop}
use Rattle.std.specs.List.{flat_map}
use Rattle.dsde_routes_wiring.specs.Touched.{handles_of_kid}
use Rattle.dsde_repair.proofs.handles.+handles.Given as goal

abbrev pub invariant-add_beneath-loop-kid : goal.invariant-add_beneath-loop-kid
invariant-add_beneath-loop-kid l = l.handles ++ flat_map handles_of_kid (drop l.kid-index l.kids) ≡ l.fn.handles ++ flat_map handles_of_kid l.kids
