-- The tokens of the items so far are written.
use Rattle.std.proofs.Common.{map, take}
use Rattle.dsde_syntax.specs.Writing.{Adds}
use Rattle.dsde_syntax.specs.Grammar.{joined, port_tokens}
use Rattle.dsde_syntax.proofs.writer.Writer.ports.Given as goal

abbrev pub invariant-loop-port : goal.invariant-loop-port
invariant-loop-port l = Adds l.initial.self (joined (map port_tokens (take l.port-index l.ports))) l.self
