use Rattle.std.proofs.Common.{◌≡◌, drop, false, length, take}
use Rattle.dsde_language.specs.Names.{with_slots}
use Rattle.dsde_language.specs.DeclaredModels.{port_fields}
use Rattle.dsde_language.specs.Statements.{input_fields}
use Rattle.dsde_program_slots.proofs.bodies.see_inputs.Given as goal

abbrev pub invariant-loop-port : goal.invariant-loop-port
invariant-loop-port l =
    (with_slots l.scope (input_fields (port_fields l.known false (drop l.port-index l.ports))) ≡ with_slots l.fn.scope (input_fields (port_fields l.known false l.ports)))
    × (take (length l.fn.scope) l.scope ≡ l.fn.scope)
