use Rattle.std.proofs.Common.{◌++◌, rules}
use Rattle.dsde_words.specs.declared.key.Key.TheVariants as key
use Rattle.dsde_syntax.specs.Grammar.{word, stmt_tokens, stmt_arm_tokens}
use Rattle.dsde_syntax.specs.declared.stmt.Stmt.TheFolds.{the_lemmas}
use Rattle.dsde_syntax.proofs.Writing.{then, same, adds_more, adds_all}
use Rattle.dsde_syntax.proofs.writer.Writer.+write_stmt.Goals as goal

pub stmt-returns-in-For : goal.stmt-returns-in-For
stmt-returns-in-For t c = same (then c.for_in.ensures c.block.ensures) (search (rules, the_lemmas))

pub else_block-returns : goal.else_block-returns
else_block-returns t c = then c.word.ensures c.block.ensures

pub block-returns : goal.block-returns
block-returns t c = then (then c.sign.ensures c.stmts.ensures) c.sign-2.ensures

pub stmt_arm-returns : goal.stmt_arm-returns
stmt_arm-returns t c = same (then c.if_cond.ensures c.block.ensures) (search (rules, the_lemmas))

pub stmts-loop-stmt-preserved : goal.stmts-loop-stmt-preserved
stmts-loop-stmt-preserved t c = adds_more (λ part. part) stmt_tokens _ _ _ c.loop-stmt-test.true c.stmt-item.is c.loop-stmt.invariant (c.stmt.ensures)

pub stmts-returns : goal.stmts-returns
stmts-returns t c = adds_all (λ part. part) stmt_tokens _ _ c.loop-stmt-test.false c.loop-stmt.invariant

pub stmt_arms-loop-arm-preserved : goal.stmt_arms-loop-arm-preserved
stmt_arms-loop-arm-preserved t c = adds_more (λ part. word key.Else ++ part) stmt_arm_tokens _ _ _ c.loop-arm-test.true c.arm-item.is c.loop-arm.invariant (then c.word.ensures c.stmt_arm-in-loop-arm.ensures)
