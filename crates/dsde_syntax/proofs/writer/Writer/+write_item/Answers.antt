use Rattle.std.proofs.Common.{◌++◌, rules}
use Rattle.dsde_words.specs.declared.key.Key.TheVariants as key
use Rattle.dsde_syntax.specs.Grammar.{word, item_tokens, item_arm_tokens}
use Rattle.dsde_syntax.specs.declared.item.Item.TheFolds.{the_lemmas}
use Rattle.dsde_syntax.proofs.Writing.{then, same, adds_more}
use Rattle.dsde_syntax.proofs.writer.Writer.+write_item.Goals as goal

pub item-returns-in-For : goal.item-returns-in-For
item-returns-in-For t c = same (then c.for_in.ensures c.items.ensures) (search (rules, the_lemmas))

pub else_items-returns : goal.else_items-returns
else_items-returns t c = then c.word.ensures c.items.ensures

pub item_arm-returns : goal.item_arm-returns
item_arm-returns t c = same (then c.if_cond.ensures c.items.ensures) (search (rules, the_lemmas))

pub items-loop-item-preserved : goal.items-loop-item-preserved
items-loop-item-preserved t c = adds_more (λ part. part) item_tokens _ _ _ c.loop-item-test.true c.item-item.is c.loop-item.invariant (c.item.ensures)

pub item_arms-loop-arm-preserved : goal.item_arms-loop-arm-preserved
item_arms-loop-arm-preserved t c = adds_more (λ part. word key.Else ++ part) item_arm_tokens _ _ _ c.loop-arm-test.true c.arm-item.is c.loop-arm.invariant (then c.word.ensures c.item_arm-in-loop-arm.ensures)
