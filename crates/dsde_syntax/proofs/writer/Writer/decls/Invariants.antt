-- The tokens of the items so far are written.
use Rattle.std.proofs.Common.{map, take}
use Rattle.dsde_syntax.specs.Writing.{Adds}
use Rattle.dsde_syntax.specs.Grammar.{joined, decl_tokens}
use Rattle.dsde_syntax.proofs.writer.Writer.decls.Given as goal

abbrev pub invariant-loop-decl : goal.invariant-loop-decl
invariant-loop-decl l = Adds l.initial.self (joined (map decl_tokens (take l.decl-index l.decls))) l.self
