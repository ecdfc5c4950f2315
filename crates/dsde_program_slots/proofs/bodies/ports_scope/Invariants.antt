use Rattle.std.proofs.Common.{◌≡◌, [], drop}
use Rattle.dsde_language.specs.Names.{with_slots}
use Rattle.dsde_language.specs.DeclaredModels.{port_fields}
use Rattle.dsde_program_slots.proofs.bodies.ports_scope.Given as goal

abbrev pub invariant-loop-port : goal.invariant-loop-port
invariant-loop-port l =
    with_slots l.scope (port_fields l.known l.out (drop l.port-index l.ports)) ≡ with_slots [] (port_fields l.known l.out l.ports)
