use Rattle.std.proofs.Common.{◌≡◌, drop}
use Rattle.dsde_language.specs.Names.{with_slots}
use Rattle.dsde_language.specs.DeclaredStructures.{directed}
use Rattle.dsde_program_structures.proofs.gates.see_ports.Given as goal

abbrev pub invariant-loop-port : goal.invariant-loop-port
invariant-loop-port l = with_slots l.found (directed l.out (drop l.port-index l.ports)) ≡ with_slots l.fn.found (directed l.out l.ports)
