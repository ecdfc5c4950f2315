use Rattle.std.proofs.Common.{◌≡◌, [], drop}
use Rattle.dsde_language.specs.RuleTables.{text_ports}
use Rattle.dsde_check_tables.proofs.text.text_ports.Given as goal

abbrev pub invariant-loop-port : goal.invariant-loop-port
invariant-loop-port l = text_ports l.words l.found (drop l.port-index l.ports) ≡ text_ports l.words [] l.ports
