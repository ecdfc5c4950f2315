use Rattle.std.proofs.Common.{◌≡◌, ◌++◌, map, drop}
use Rattle.dsde_repair_walks.specs.Found.{name_of}
use Rattle.dsde_repair.proofs.names.add_names.Given as goal

abbrev pub invariant-loop-kid : goal.invariant-loop-kid
invariant-loop-kid l = l.names ++ map name_of (drop l.kid-index l.kids) ≡ l.fn.names ++ map name_of l.kids
