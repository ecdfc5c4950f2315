use Rattle.std.proofs.Common.{◌≡◌}
use Rattle.dsde_core_moves.specs.given.sim_gathering.Boxes.{empty_ports}
use Rattle.dsde_core_parcels.proofs.ports.empty_ports.Given as goal

abbrev pub invariant-loop-port : goal.invariant-loop-port
invariant-loop-port l = l.got ≡ empty_ports l._port
