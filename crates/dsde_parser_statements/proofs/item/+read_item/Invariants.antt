-- What is read so far, from the start of the loop on, and a measure that goes down.
use Rattle.std.proofs.Common.{◌+◌, ◌*◌, length, [], ◌∷◌}
use Rattle.dsde_syntax.specs.Grammar.{item_tokens, item_arm_tokens}
use Rattle.dsde_syntax.specs.Places.{item_span, item_arm_span}
use Rattle.dsde_syntax.specs.Levels.{is_item, is_item_arm}
use Rattle.dsde_parser_expressions.specs.Took.{Took, TookAll}
use Rattle.dsde_parser_expressions.specs.Parts.{AllOk, SomeOk, joined_by, all_by, elses_by, spans_by}
use Rattle.dsde_words.specs.declared.key.Key.TheVariants as key
use Rattle.dsde_parser_grammar.specs.Want as want
use Rattle.dsde_parser_grammar.specs.Steps.{arm_rest}
use Rattle.dsde_parser_expressions.specs.Follows.{Led}
use Rattle.dsde_parser_statements.proofs.item.+read_item.Given as goal

abbrev pub invariant-items-items : goal.invariant-items-items
invariant-items-items l = record {
  took : TookAll (joined_by item_tokens) (all_by item_span) (AllOk is_item) l.fn.parser l.parser l.items;
  same : Led (want.items ∷ []) (want.items ∷ []) l.fn.parser l.parser;
}

abbrev pub decreases-items-items : goal.decreases-items-items
decreases-items-items l = length l.parser.1

abbrev pub invariant-item_arms-arms : goal.invariant-item_arms-arms
invariant-item_arms-arms l = record {
  took : Took (elses_by item_arm_tokens) (spans_by item_arm_span) (SomeOk is_item_arm) l.fn.parser l.parser l.arms;
  same : Led (want.word key.If ∷ arm_rest want.items want.other_items) (want.other_items ∷ []) l.fn.parser l.parser;
}

abbrev pub decreases-item_arms-arms : goal.decreases-item_arms-arms
decreases-item_arms-arms l = length l.parser.1

abbrev pub decreases-items : goal.decreases-items
decreases-items l = 8 * length l.parser.now.1 + 6

abbrev pub decreases-item : goal.decreases-item
decreases-item l = 8 * length l.parser.now.1 + 5

abbrev pub decreases-item_choice : goal.decreases-item_choice
decreases-item_choice l = 8 * length l.parser.now.1 + 4

abbrev pub decreases-item_arms : goal.decreases-item_arms
decreases-item_arms l = 8 * length l.parser.now.1 + 3

abbrev pub decreases-item_arm : goal.decreases-item_arm
decreases-item_arm l = 8 * length l.parser.now.1 + 2

abbrev pub decreases-item_loop : goal.decreases-item_loop
decreases-item_loop l = 8 * length l.parser.now.1 + 2

abbrev pub decreases-items_block : goal.decreases-items_block
decreases-items_block l = 8 * length l.parser.now.1 + 1

abbrev pub decreases-last_items : goal.decreases-last_items
decreases-last_items l = 8 * length l.parser.now.1 + 1
