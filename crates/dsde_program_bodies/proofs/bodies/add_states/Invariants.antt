-- What the rest lays behind what was laid so far is what all lay.
use Rattle.std.proofs.Common.{◌≡◌, ◌++◌, drop}
use Rattle.dsde_language.specs.DeclaredModels.{state_fields}
use Rattle.dsde_language.specs.Names.{with_slots}
use Rattle.dsde_program_expressions.specs.given.program_layout.LayStatements.{lay_states}
use Rattle.dsde_program_bodies.proofs.bodies.add_states.Given as goal

abbrev pub invariant-loop-state : goal.invariant-loop-state
invariant-loop-state l =
    (l.inits ++ (lay_states l.resolver (drop l.state-index l.states) l.scope l.tables).own ≡ l.fn.inits ++ (lay_states l.resolver l.states l.fn.scope l.fn.tables).own)
    × ((lay_states l.resolver (drop l.state-index l.states) l.scope l.tables).tables ≡ (lay_states l.resolver l.states l.fn.scope l.fn.tables).tables)
    × (with_slots l.scope (state_fields l.resolver (drop l.state-index l.states)) ≡ with_slots l.fn.scope (state_fields l.resolver l.states))
