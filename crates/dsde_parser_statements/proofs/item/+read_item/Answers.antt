use Rattle.dsde_syntax.specs.declared.token.Sign.TheVariants as sign
use Rattle.dsde_parser_expressions.proofs.TookLemmas.{Took-push, Took-else}
use Rattle.dsde_parser_statements.proofs.StmtLemmas.{item_loop-Took, item_arm-Took, item_choice-Took}
use Rattle.std.proofs.Common.{rules, refl, sym, [], ◌∷◌, ◌++◌}
use Rattle.dsde_words.specs.declared.key.Key.TheVariants as key
use Rattle.dsde_parser_grammar.specs.Want as want
use Rattle.dsde_parser_grammar.specs.Steps.{block, arm_rest, set, loop_rest, args}
use Rattle.dsde_parser_expressions.proofs.NodeLemmas.{taken}
use Rattle.dsde_parser_expressions.proofs.PartLemmas.{one, own, all, ◌⨟◌, wide, read, read-all}
use Rattle.dsde_parser_expressions.proofs.LedLemmas.{leads-from, leads-behind, taken-step}
use Rattle.dsde_parser_expressions.proofs.StepLemmas.{items-more, item-comp, item-link, item-choice, item-loop, item-let, items-else, else_items-last, no-if}
use Rattle.dsde_parser_statements.proofs.item.+read_item.Goals as goal

pub items-items-preserved : goal.items-items-preserved
items-items-preserved t c =
    record {
      took = rw c.in_ok-push.ensures.ok (Took-push _ c.items.invariant.took c.in_ok-item.ensures.took);
      same = search rules;
    }

pub item_arms-arms-preserved : goal.item_arms-arms-preserved
item_arms-arms-preserved t c =
    record {
      took = rw c.in_ok-push-2.ensures.ok (Took-else _ c.arms.invariant.took c.in_ok-key.ensures.took c.in_ok-item_arm-2.ensures.took);
      same = search rules;
    }

pub item_choice-returns-clause-took : goal.item_choice-returns-clause-took
item_choice-returns-clause-took t c = item_choice-Took _ _ c.in_ok-arms.ensures.took c.in_ok-other.ensures.took

pub item_loop-returns-clause-took : goal.item_loop-returns-clause-took
item_loop-returns-clause-took t c = rw c.into_inner-list.ensures (item_loop-Took _ _ _ c.in_ok-name.ensures.took c.in_ok-body.ensures.took)

pub item_arm-returns-clause-took : goal.item_arm-returns-clause-took
item_arm-returns-clause-took t c = rw c.into_inner-cond.ensures (item_arm-Took _ _ c.in_ok-cond.ensures.took c.in_ok-body.ensures.took)

pub items-returns-in_err-item-clause-same : goal.items-returns-in_err-item-clause-same
items-returns-in_err-item-clause-same t c =
    leads-behind (want.items ∷ []) (want.items ∷ []) [] c.args.parser.now c.items.parser c.item.new.parser _ c.items.invariant.same (leads-from (want.items ∷ []) (want.item ∷ want.items ∷ []) [] c.items.parser c.item.new.parser _ (λ s. items-more s c.items.parser.0 c.items.parser.1 (sym c.items-test.ensures)) (search rules))

pub item-returns-then-next_is_key-clause-same : goal.item-returns-then-next_is_key-clause-same
item-returns-then-next_is_key-clause-same t c =
    leads-from (want.item ∷ []) (want.word key.Comp ∷ want.name ∷ want.index ∷ want.entry_mark ∷ want.name ∷ (args ++ want.mark sign.Semicolon ∷ [])) [] c.args.parser.now c.comp.new.parser _ (λ s. item-comp s c.args.parser.now.0 c.args.parser.now.1 (sym c.if-next_is_key.ensures)) c.comp.ensures.same

pub item-returns-then-next_is_key-2-clause-same : goal.item-returns-then-next_is_key-2-clause-same
item-returns-then-next_is_key-2-clause-same t c =
    leads-from (want.item ∷ []) (want.word key.Link ∷ want.end ∷ want.mark sign.Arrow ∷ want.end ∷ want.via ∷ want.mark sign.Semicolon ∷ []) [] c.args.parser.now c.link.new.parser _ (λ s. item-link s c.args.parser.now.0 c.args.parser.now.1 (sym c.if-next_is_key-2.ensures)) c.link.ensures.same

pub item-returns-then-next_is_key-3-clause-same : goal.item-returns-then-next_is_key-3-clause-same
item-returns-then-next_is_key-3-clause-same t c =
    leads-from (want.item ∷ []) (want.word key.If ∷ arm_rest want.items want.other_items) [] c.args.parser.now c.item_choice.new.parser _ (λ s. item-choice s c.args.parser.now.0 c.args.parser.now.1 (sym c.if-next_is_key-3.ensures)) c.item_choice.ensures.same

pub item-returns-then-next_is_key-4-clause-same : goal.item-returns-then-next_is_key-4-clause-same
item-returns-then-next_is_key-4-clause-same t c =
    leads-from (want.item ∷ []) (want.word key.For ∷ loop_rest want.items) [] c.args.parser.now c.item_loop.new.parser _ (λ s. item-loop s c.args.parser.now.0 c.args.parser.now.1 (sym c.if-next_is_key-4.ensures)) c.item_loop.ensures.same

pub item-returns-clause-same : goal.item-returns-clause-same
item-returns-clause-same t c =
    leads-from (want.item ∷ []) (want.word key.Let ∷ set) [] c.args.parser.now c.let_item.new.parser _ (λ s. item-let s c.args.parser.now.0 c.args.parser.now.1 (sym c.if-next_is_key.ensures) (sym c.if-next_is_key-2.ensures) (sym c.if-next_is_key-3.ensures) (sym c.if-next_is_key-4.ensures)) c.let_item.ensures.same

pub item_arms-returns-in_err-key-clause-same : goal.item_arms-returns-in_err-key-clause-same
item_arms-returns-in_err-key-clause-same t c =
    leads-behind (want.word key.If ∷ arm_rest want.items want.other_items) (want.other_items ∷ []) (want.other_items ∷ []) c.args.parser.now c.arms.parser c.key.new.self _ c.arms.invariant.same (leads-from (want.other_items ∷ []) (want.word key.Else ∷ want.word key.If ∷ arm_rest want.items want.other_items) (want.other_items ∷ []) c.arms.parser c.key.new.self _ (λ s. items-else s c.arms.parser.0 c.arms.parser.1 (sym c.arms-test.ensures)) (search rules))

pub item_arms-returns-in_err-item_arm-2-clause-same : goal.item_arms-returns-in_err-item_arm-2-clause-same
item_arms-returns-in_err-item_arm-2-clause-same t c =
    leads-behind (want.word key.If ∷ arm_rest want.items want.other_items) (want.other_items ∷ []) (want.other_items ∷ []) c.args.parser.now c.arms.parser c.item_arm-in-arms.new.parser _ c.arms.invariant.same (leads-from (want.other_items ∷ []) (want.word key.Else ∷ want.word key.If ∷ arm_rest want.items want.other_items) (want.other_items ∷ []) c.arms.parser c.item_arm-in-arms.new.parser _ (λ s. items-else s c.arms.parser.0 c.arms.parser.1 (sym c.arms-test.ensures)) (search rules))

pub last_items-returns-in_err-items_block-clause-same : goal.last_items-returns-in_err-items_block-clause-same
last_items-returns-in_err-items_block-clause-same t c =
    λ h.
    let one = taken _ _ _ _ c.takes_key.ensures.took c.if-not-takes_key.false in
    leads-behind (want.other_items ∷ []) (want.else_items ∷ []) [] c.args.parser.now c.takes_key.new.self c.items_block.new.parser _ (λ s. taken-step (want.other_items ∷ s) (want.else_items ∷ s) one refl) (leads-from (want.else_items ∷ []) (block want.items) [] c.takes_key.new.self c.items_block.new.parser _ (λ s. else_items-last s c.takes_key.new.self.0 c.takes_key.new.self.1 (no-if one h)) (search rules))

pub items_block-returns-clause-took : goal.items_block-returns-clause-took
items_block-returns-clause-took t c = read (one c.in_ok-sign.ensures.took ⨟ all c.in_ok-items.ensures.took ⨟ one c.in_ok-sign-2.ensures.took) refl refl c.in_ok-items.ensures.took.good

pub last_items-returns-clause-took : goal.last_items-returns-clause-took
last_items-returns-clause-took t c =
    read-all (wide (one (taken _ _ _ _ c.takes_key.ensures.took c.if-not-takes_key.false) ⨟ own c.in_ok-items_block.ensures.took)) refl refl c.in_ok-items_block.ensures.took.good
