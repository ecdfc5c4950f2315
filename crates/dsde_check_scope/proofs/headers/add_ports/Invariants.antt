use Rattle.std.proofs.Common.{◌≡◌, drop}
use Rattle.dsde_language.specs.Blocks.{ports_all}
use Rattle.dsde_check_scope.proofs.headers.add_ports.Given as goal

abbrev pub invariant-loop-port : goal.invariant-loop-port
invariant-loop-port l = ports_all l.known l.params l.found (drop l.port-index l.ports) ≡ ports_all l.known l.params l.fn.found l.ports
