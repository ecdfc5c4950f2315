use Rattle.std.proofs.Common.{◌≡◌, drop}
use Rattle.dsde_language.specs.RuleTables.{used_ports}
use Rattle.dsde_check_tables.proofs.words.used_ports.Given as goal

abbrev pub invariant-loop-port : goal.invariant-loop-port
invariant-loop-port l = used_ports l.words (drop l.port-index l.ports) ≡ used_ports l.fn.words l.ports
