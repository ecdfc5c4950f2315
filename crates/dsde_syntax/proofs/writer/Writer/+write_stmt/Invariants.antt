-- The tokens of the items so far are written.
use Rattle.std.proofs.Common.{◌++◌, map, flat_map, take}
use Rattle.dsde_syntax.specs.Writing.{Adds}
use Rattle.dsde_syntax.specs.Grammar.{word, joined, stmt_tokens, stmt_arm_tokens}
use Rattle.dsde_words.specs.declared.key.Key.TheVariants as key
use Rattle.dsde_syntax.proofs.writer.Writer.+write_stmt.Given as goal

abbrev pub invariant-stmt_arms-loop-arm : goal.invariant-stmt_arms-loop-arm
invariant-stmt_arms-loop-arm l = Adds l.initial.self (flat_map (λ part. word key.Else ++ part) (map stmt_arm_tokens (take l.arm-index l.rest))) l.self

abbrev pub invariant-stmts-loop-stmt : goal.invariant-stmts-loop-stmt
invariant-stmts-loop-stmt l = Adds l.fn.self (joined (map stmt_tokens (take l.stmt-index l.stmts))) l.self
