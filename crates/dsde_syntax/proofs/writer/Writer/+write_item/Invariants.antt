-- The tokens of the items so far are written.
use Rattle.std.proofs.Common.{◌++◌, map, flat_map, take}
use Rattle.dsde_syntax.specs.Writing.{Adds}
use Rattle.dsde_syntax.specs.Grammar.{word, joined, item_tokens, item_arm_tokens}
use Rattle.dsde_words.specs.declared.key.Key.TheVariants as key
use Rattle.dsde_syntax.proofs.writer.Writer.+write_item.Given as goal

abbrev pub invariant-item_arms-loop-arm : goal.invariant-item_arms-loop-arm
invariant-item_arms-loop-arm l = Adds l.initial.self (flat_map (λ part. word key.Else ++ part) (map item_arm_tokens (take l.arm-index l.rest))) l.self

abbrev pub invariant-items-loop-item : goal.invariant-items-loop-item
invariant-items-loop-item l = Adds l.initial.self (joined (map item_tokens (take l.item-index l.body))) l.self
