use Rattle.std.proofs.Common.{◌≡◌, ◌++◌, drop}
use Rattle.dsde_language.specs.DeclaredModels.{state_fields}
use Rattle.dsde_program_infos.proofs.fields.state_fields.Given as goal

abbrev pub invariant-loop-state : goal.invariant-loop-state
invariant-loop-state l = l.found ++ state_fields l.known (drop l.state-index l.states) ≡ state_fields l.known l.states
