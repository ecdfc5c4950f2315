use Rattle.std.proofs.Common.{◌≡◌, drop}
use Rattle.dsde_language.specs.Blocks.{with_ports}
use Rattle.dsde_check_scope.proofs.headers.with_ports.Given as goal

abbrev pub invariant-loop-port : goal.invariant-loop-port
invariant-loop-port l = with_ports l.names (drop l.port-index l.ports) ≡ with_ports l.fn.names l.ports
