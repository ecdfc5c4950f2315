use Rattle.std.proofs.Common.{◌≡◌, drop}
use Rattle.dsde_values.specs.Value.{are_distinct}
use Rattle.dsde_values.proofs.lawful.are_distinct.Given as goal

abbrev pub invariant-loop-index : goal.invariant-loop-index
invariant-loop-index l = are_distinct (drop l.index l.names) ≡ are_distinct l.names
