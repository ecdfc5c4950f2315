use Rattle.std.proofs.Common.{◌≡◌, ◌++◌, drop}
use Rattle.dsde_values.specs.Path.{root}
use Rattle.dsde_run_free.proofs.moves.part_path.Given as goal

abbrev pub invariant-loop-name : goal.invariant-loop-name
invariant-loop-name l = l.own ++ drop l.name-index l.names ≡ root.names ++ l.names
