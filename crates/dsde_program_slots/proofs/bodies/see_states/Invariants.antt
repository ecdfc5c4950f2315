use Rattle.std.proofs.Common.{◌≡◌, drop}
use Rattle.dsde_language.specs.Names.{with_slots}
use Rattle.dsde_language.specs.DeclaredModels.{state_fields}
use Rattle.dsde_program_slots.proofs.bodies.see_states.Given as goal

abbrev pub invariant-loop-state : goal.invariant-loop-state
invariant-loop-state l =
    with_slots l.scope (state_fields l.known (drop l.state-index l.states)) ≡ with_slots l.fn.scope (state_fields l.known l.states)
