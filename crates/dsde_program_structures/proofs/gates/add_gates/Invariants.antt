use Rattle.std.proofs.Common.{◌≡◌, ◌++◌, drop, map}
use Rattle.dsde_program_structures.specs.Sides.{gate_of}
use Rattle.dsde_program_structures.proofs.gates.add_gates.Given as goal

abbrev pub invariant-loop-model : goal.invariant-loop-model
invariant-loop-model l = l.gates ++ map gate_of (drop l.model-index l.models) ≡ l.fn.gates ++ map gate_of l.models
