use Rattle.std.proofs.Common.{◌≡◌, ◌+◌, ◌<◌, Ok, Err, [], length, map, drop, sym, ap, subst, ◌∙◌, arith}
use Rattle.std.specs.Option.{option_map}
use Rattle.std.proofs.lemmas.List.{get_or_default, nil_from_length}
use Rattle.dsde_syntax.specs.declared.expr.Expr.TheViews.{sized-Each}
use Rattle.dsde_syntax.specs.declared.expr.FieldSet.{FieldSet}
use Rattle.dsde_values.specs.declared.types.Field.{Field}
use Rattle.dsde_language.specs.Judge.{judge, each_of, if_of, links_from, fit, all_of, fill, fit_parts, arms_of, new_of, variant_of}
use Rattle.dsde_check_scope.specs.Says.{Says}
use Rattle.dsde_check_expressions.specs.Parts.{fit_one, judge_arm, judge_set, judge_sign_tail, judge_suffix, judge_tail}
use Rattle.dsde_check_expressions.proofs.Chains.{link_went, link_failed, passed_on}
use Rattle.dsde_check_expressions.proofs.Falls.{or_else_falls, or_falls, and_falls, compare_falls, sum_falls, mul_falls, post_falls, if_falls}
use Rattle.dsde_check_expressions.proofs.Fits.{went, went_wrong, fit_next, item_next, fill_next, part_next, arm_next}
use Rattle.dsde_check_expressions.proofs.Folds.{judge_each, judge_new, judge_variant}
use Rattle.dsde_check_expressions.proofs.expr.+judging.Goals as goal

pub judge-returns-in-Variant-clause-says : goal.judge-returns-in-Variant-clause-says
judge-returns-in-Variant-clause-says t c =
    subst (λ meant. Says meant c.variant_of.result)
    (sym (ap (λ own. judge c.args.around.now own c.args.scope.now) c.in-Variant.is ∙ judge_variant c.args.around.now c.in-Variant.of c.in-Variant.variant c.args.scope.now))
    (subst (λ known. Says (variant_of known c.in-Variant.of c.in-Variant.variant) c.variant_of.result) c.known.ensures c.variant_of.ensures)

pub judge-returns-in-New-clause-says : goal.judge-returns-in-New-clause-says
judge-returns-in-New-clause-says t c =
    subst (λ meant. Says meant c.new_of.result)
    (sym (ap (λ own. judge c.args.around.now own c.args.scope.now) c.in-New.is ∙ judge_new c.args.around.now c.in-New.at c.in-New.of c.in-New.fields c.args.scope.now))
    (subst (λ sets. Says (new_of c.args.around.now.known c.in-New.at c.in-New.of (map (judge_set c.args.around.now) sets) c.args.scope.now) c.new_of.result) c.as_slice-in-New.ensures c.new_of.ensures.says)

pub judge-returns-in-Each-clause-says : goal.judge-returns-in-Each-clause-says
judge-returns-in-Each-clause-says t c =
    subst (λ meant. Says meant c.each_of.result)
    (sym (ap (λ own. judge c.args.around.now own c.args.scope.now) c.in-Each.is ∙ judge_each c.args.around.now c.in-Each.at c.in-Each.name c.in-Each.list c.in-Each.cond c.in-Each.value c.args.scope.now))
    (subst (λ list. Says (each_of c.args.around.now c.in-Each.at c.in-Each.name (judge c.args.around.now list) (option_map (judge c.args.around.now) c.in-Each.cond) (judge c.args.around.now c.in-Each.value) c.args.scope.now) c.each_of.result) c.get-in-Each.ensures
    (subst (λ value. Says (each_of c.args.around.now c.in-Each.at c.in-Each.name (judge c.args.around.now c.get-in-Each.result.now) (option_map (judge c.args.around.now) c.in-Each.cond) (judge c.args.around.now value) c.args.scope.now) c.each_of.result) c.get-in-Each-2.ensures c.each_of.ensures.says))

pub tails-returns-in_err-left-clause-says : goal.tails-returns-in_err-left-clause-says
tails-returns-in_err-left-clause-says t c =
    passed_on _ c.in_err-left.field-0.0 c.from_residual.result c.from_residual.ensures.0 c.from_residual.ensures.1
    (subst (λ meant. Says meant (Err c.in_err-left.field-0.0)) c.loop-tail.invariant.0
    (link_failed (judge_tail c.args.around.now) c.args.rest.now c.loop-tail.tail-index c.tail-item.result c.loop-tail.left c.loop-tail.scope c.in_err-left.field-0.0 c.loop-tail-test.true c.tail-item.is c.in_err-left.ensures.says))

pub tails-loop-tail-preserved : goal.tails-loop-tail-preserved
tails-loop-tail-preserved t c = (
  ap (λ scope. links_from c.in_ok-left.left (map (judge_tail c.args.around.now) (drop (c.loop-tail.tail-index + 1) c.args.rest.now)) scope) c.in_ok-left.ensures.keeps
      ∙ sym (link_went (judge_tail c.args.around.now) c.args.rest.now c.loop-tail.tail-index c.tail-item.result c.loop-tail.left c.loop-tail.scope _ c.loop-tail-test.true c.tail-item.is c.in_ok-left.ensures.says)
      ∙ c.loop-tail.invariant.0,
  c.in_ok-left.ensures.keeps ∙ c.loop-tail.invariant.1,
)

pub suffixes-returns-in_err-left-clause-says : goal.suffixes-returns-in_err-left-clause-says
suffixes-returns-in_err-left-clause-says t c =
    passed_on _ c.in_err-left.field-0.0 c.from_residual.result c.from_residual.ensures.0 c.from_residual.ensures.1
    (subst (λ meant. Says meant (Err c.in_err-left.field-0.0)) c.loop-own.invariant.0
    (link_failed (judge_suffix c.args.around.now) c.args.rest.now c.loop-own.own-index c.own-item.result c.loop-own.left c.loop-own.scope c.in_err-left.field-0.0 c.loop-own-test.true c.own-item.is c.in_err-left.ensures.says))

pub suffixes-loop-own-preserved : goal.suffixes-loop-own-preserved
suffixes-loop-own-preserved t c = (
  ap (λ scope. links_from c.in_ok-left.left (map (judge_suffix c.args.around.now) (drop (c.loop-own.own-index + 1) c.args.rest.now)) scope) c.in_ok-left.ensures.keeps
      ∙ sym (link_went (judge_suffix c.args.around.now) c.args.rest.now c.loop-own.own-index c.own-item.result c.loop-own.left c.loop-own.scope _ c.loop-own-test.true c.own-item.is c.in_ok-left.ensures.says)
      ∙ c.loop-own.invariant.0,
  c.in_ok-left.ensures.keeps ∙ c.loop-own.invariant.1,
)

pub sign_tails-returns-in_err-left-clause-says : goal.sign_tails-returns-in_err-left-clause-says
sign_tails-returns-in_err-left-clause-says t c =
    passed_on _ c.in_err-left.field-0.0 c.from_residual.result c.from_residual.ensures.0 c.from_residual.ensures.1
    (subst (λ meant. Says meant (Err c.in_err-left.field-0.0)) c.loop-tail.invariant.0
    (link_failed (judge_sign_tail c.args.around.now) c.args.rest.now c.loop-tail.tail-index c.tail-item.result c.loop-tail.left c.loop-tail.scope c.in_err-left.field-0.0 c.loop-tail-test.true c.tail-item.is c.in_err-left.ensures.says))

pub sign_tails-loop-tail-preserved : goal.sign_tails-loop-tail-preserved
sign_tails-loop-tail-preserved t c = (
  ap (λ scope. links_from c.in_ok-left.left (map (judge_sign_tail c.args.around.now) (drop (c.loop-tail.tail-index + 1) c.args.rest.now)) scope) c.in_ok-left.ensures.keeps
      ∙ sym (link_went (judge_sign_tail c.args.around.now) c.args.rest.now c.loop-tail.tail-index c.tail-item.result c.loop-tail.left c.loop-tail.scope _ c.loop-tail-test.true c.tail-item.is c.in_ok-left.ensures.says)
      ∙ c.loop-tail.invariant.0,
  c.in_ok-left.ensures.keeps ∙ c.loop-tail.invariant.1,
)

pub judge-or_else-requires : goal.judge-or_else-requires
judge-or_else-requires t c = grind (arith, or_else_falls c.in-OrElse.at c.in-OrElse.left c.in-OrElse.right)

pub judge-chain-requires : goal.judge-chain-requires
judge-chain-requires t c = grind (arith, or_falls c.in-Or.first c.in-Or.rest)

pub judge-chain-requires-in-And : goal.judge-chain-requires-in-And
judge-chain-requires-in-And t c = grind (arith, and_falls c.in-And.first c.in-And.rest)

pub judge-compare-requires : goal.judge-compare-requires
judge-compare-requires t c = grind (arith, compare_falls c.in-Compare.sign c.in-Compare.at c.in-Compare.left c.in-Compare.right)

pub judge-sign_chain-requires : goal.judge-sign_chain-requires
judge-sign_chain-requires t c = grind (arith, sum_falls c.in-Sum.first c.in-Sum.rest)

pub judge-sign_chain-requires-in-Mul : goal.judge-sign_chain-requires-in-Mul
judge-sign_chain-requires-in-Mul t c = grind (arith, mul_falls c.in-Mul.first c.in-Mul.rest)

pub judge-suffix_chain-requires : goal.judge-suffix_chain-requires
judge-suffix_chain-requires t c = grind (arith, post_falls c.in-Post.first c.in-Post.rest)

pub judge-each_of-requires : goal.judge-each_of-requires
judge-each_of-requires t c = grind (arith, sized-Each c.in-Each.at c.in-Each.name c.in-Each.list c.in-Each.cond c.in-Each.value)

pub judge-if_of-requires : goal.judge-if_of-requires
judge-if_of-requires t c = grind (arith, if_falls c.in-If.at c.in-If.arms c.in-If.other)

pub if_of-returns-in_default-clause-says : goal.if_of-returns-in_default-clause-says
if_of-returns-in_default-clause-says t c =
    let none : c.args.arms.now ≡ [] = nil_from_length c.args.arms.now c.in_default.ensures.cases in
    subst (λ own. Says (if_of c.args.at (map (judge_arm c.args.around.now) own) (judge c.args.around.now c.args.other.now) c.args.scope.now) c.judge.result) (sym none) c.judge.ensures.says

pub fit-returns-in_err-height-clause-says : goal.fit-returns-in_err-height-clause-says
fit-returns-in_err-height-clause-says t c =
    passed_on _ c.in_err-height.field-0.0 c.from_residual.result c.from_residual.ensures.0 c.from_residual.ensures.1
    (subst (λ meant. Says meant (Err c.in_err-height.field-0.0)) c.loop-index.invariant.0
    (went_wrong _ _ (λ next. fit (map (judge c.args.around.now) (drop (c.loop-index.index + 1) c.args.args.now)) (drop (c.loop-index.index + 1) c.args.params.now) next c.loop-index.scope) c.in_err-height.field-0.0
    (fit_next c.args.around.now c.args.args.now c.args.params.now c.loop-index.index c.index-args-index.result c.index-params-index.result c.loop-index.height c.loop-index.scope c.loop-index-test.true (omega (arith, c.requires, c.loop-index-test.true)) c.index-args-index.is c.index-params-index.is)
    c.in_err-height.ensures.says))

pub fit-loop-index-preserved : goal.fit-loop-index-preserved
fit-loop-index-preserved t c = (
  ap (λ scope. fit (map (judge c.args.around.now) (drop (c.loop-index.index + 1) c.args.args.now)) (drop (c.loop-index.index + 1) c.args.params.now) c.in_ok-height.height scope) c.in_ok-height.ensures.keeps
      ∙ sym (went _ _ (λ next. fit (map (judge c.args.around.now) (drop (c.loop-index.index + 1) c.args.args.now)) (drop (c.loop-index.index + 1) c.args.params.now) next c.loop-index.scope) _
      (fit_next c.args.around.now c.args.args.now c.args.params.now c.loop-index.index c.index-args-index.result c.index-params-index.result c.loop-index.height c.loop-index.scope c.loop-index-test.true (omega (arith, c.requires, c.loop-index-test.true)) c.index-args-index.is c.index-params-index.is)
      c.in_ok-height.ensures.says)
      ∙ c.loop-index.invariant.0,
  c.in_ok-height.ensures.keeps ∙ c.loop-index.invariant.1,
)

pub further_items-returns-in_err-height-clause-says : goal.further_items-returns-in_err-height-clause-says
further_items-returns-in_err-height-clause-says t c =
    passed_on _ c.in_err-height.field-0.0 c.from_residual.result c.from_residual.ensures.0 c.from_residual.ensures.1
    (subst (λ meant. Says meant (Err c.in_err-height.field-0.0)) c.loop-item.invariant.0
    (went_wrong _ _ (λ next. all_of c.args.first.now.ty (map (judge c.args.around.now) (drop (c.loop-item.item-index + 1) c.args.items.now)) next c.loop-item.scope) c.in_err-height.field-0.0
    (item_next c.args.around.now c.args.items.now c.loop-item.item-index c.item-item.result c.args.first.now.ty c.loop-item.height c.loop-item.scope c.loop-item-test.true c.item-item.is)
    c.in_err-height.ensures.says))

pub further_items-loop-item-preserved : goal.further_items-loop-item-preserved
further_items-loop-item-preserved t c = (
  ap (λ scope. all_of c.args.first.now.ty (map (judge c.args.around.now) (drop (c.loop-item.item-index + 1) c.args.items.now)) c.in_ok-height.height scope) c.in_ok-height.ensures.keeps
      ∙ sym (went _ _ (λ next. all_of c.args.first.now.ty (map (judge c.args.around.now) (drop (c.loop-item.item-index + 1) c.args.items.now)) next c.loop-item.scope) _
      (item_next c.args.around.now c.args.items.now c.loop-item.item-index c.item-item.result c.args.first.now.ty c.loop-item.height c.loop-item.scope c.loop-item-test.true c.item-item.is)
      c.in_ok-height.ensures.says)
      ∙ c.loop-item.invariant.0,
  c.in_ok-height.ensures.keeps ∙ c.loop-item.invariant.1,
)

pub further_arms-returns-in_err-height-clause-says : goal.further_arms-returns-in_err-height-clause-says
further_arms-returns-in_err-height-clause-says t c =
    passed_on _ c.in_err-height.field-0.0 c.from_residual.result c.from_residual.ensures.0 c.from_residual.ensures.1
    (subst (λ meant. Says meant (Err c.in_err-height.field-0.0)) c.loop-own.invariant.0
    (went_wrong _ _ (λ next. arms_of c.args.first.now.ty (map (judge_arm c.args.around.now) (drop (c.loop-own.own-index + 1) c.args.arms.now)) next c.loop-own.scope) c.in_err-height.field-0.0
    (arm_next (judge_arm c.args.around.now) c.args.arms.now c.loop-own.own-index c.own-item.result c.args.first.now.ty c.loop-own.height c.loop-own.scope c.loop-own-test.true c.own-item.is)
    c.in_err-height.ensures.says))

pub further_arms-loop-own-preserved : goal.further_arms-loop-own-preserved
further_arms-loop-own-preserved t c = (
  ap (λ scope. arms_of c.args.first.now.ty (map (judge_arm c.args.around.now) (drop (c.loop-own.own-index + 1) c.args.arms.now)) c.in_ok-height.height scope) c.in_ok-height.ensures.keeps
      ∙ sym (went _ _ (λ next. arms_of c.args.first.now.ty (map (judge_arm c.args.around.now) (drop (c.loop-own.own-index + 1) c.args.arms.now)) next c.loop-own.scope) _
      (arm_next (judge_arm c.args.around.now) c.args.arms.now c.loop-own.own-index c.own-item.result c.args.first.now.ty c.loop-own.height c.loop-own.scope c.loop-own-test.true c.own-item.is)
      c.in_ok-height.ensures.says)
      ∙ c.loop-own.invariant.0,
  c.in_ok-height.ensures.keeps ∙ c.loop-own.invariant.1,
)

pub fill-returns-in_err-height-clause-says : goal.fill-returns-in_err-height-clause-says
fill-returns-in_err-height-clause-says t c =
    passed_on _ c.in_err-height.field-0.0 c.from_residual.result c.from_residual.ensures.0 c.from_residual.ensures.1
    (subst (λ meant. Says meant (Err c.in_err-height.field-0.0)) c.loop-index.invariant.0
    (went_wrong _ _ (λ next. fill (map (judge_set c.args.around.now) (drop (c.loop-index.index + 1) c.args.sets.now)) (drop (c.loop-index.index + 1) c.args.fields.now) next c.loop-index.scope) c.in_err-height.field-0.0
    (fill_next c.args.around.now c.args.sets.now c.args.fields.now c.loop-index.index c.index-sets-index.result c.index-fields-index.result c.loop-index.height c.loop-index.scope c.loop-index-test.true (omega (arith, c.requires, c.loop-index-test.true)) c.index-sets-index.is c.index-fields-index.is)
    (subst (λ ty. Says (fit_one (judge c.args.around.now c.index-sets-index.result.value) ty c.loop-index.height c.loop-index.scope) (Err c.in_err-height.field-0.0)) (c.ty.ensures ∙ ap (λ (field : Field). field.ty) c.get.ensures)
    (subst (λ (set : FieldSet). Says (fit_one (judge c.args.around.now set.value) c.ty.result.now c.loop-index.height c.loop-index.scope) (Err c.in_err-height.field-0.0)) (sym c.index-sets-index.is) c.in_err-height.ensures.says))))

pub fill-loop-index-preserved : goal.fill-loop-index-preserved
fill-loop-index-preserved t c = (
  ap (λ scope. fill (map (judge_set c.args.around.now) (drop (c.loop-index.index + 1) c.args.sets.now)) (drop (c.loop-index.index + 1) c.args.fields.now) c.in_ok-height.height scope) c.in_ok-height.ensures.keeps
      ∙ sym (went _ _ (λ next. fill (map (judge_set c.args.around.now) (drop (c.loop-index.index + 1) c.args.sets.now)) (drop (c.loop-index.index + 1) c.args.fields.now) next c.loop-index.scope) _
      (fill_next c.args.around.now c.args.sets.now c.args.fields.now c.loop-index.index c.index-sets-index.result c.index-fields-index.result c.loop-index.height c.loop-index.scope c.loop-index-test.true (omega (arith, c.requires, c.loop-index-test.true)) c.index-sets-index.is c.index-fields-index.is)
      (subst (λ ty. fit_one (judge c.args.around.now c.index-sets-index.result.value) ty c.loop-index.height c.loop-index.scope ≡ Ok c.in_ok-height.height) (c.ty.ensures ∙ ap (λ (field : Field). field.ty) c.get.ensures)
      (subst (λ (set : FieldSet). fit_one (judge c.args.around.now set.value) c.ty.result.now c.loop-index.height c.loop-index.scope ≡ Ok c.in_ok-height.height) (sym c.index-sets-index.is) c.in_ok-height.ensures.says)))
      ∙ c.loop-index.invariant.0,
  c.in_ok-height.ensures.keeps ∙ c.loop-index.invariant.1,
)

pub fit_parts-returns-in_err-fitted-clause-says : goal.fit_parts-returns-in_err-fitted-clause-says
fit_parts-returns-in_err-fitted-clause-says t c =
    let typed : c.loop-index.index < length c.args.parts.now = omega (arith, c.requires, c.loop-index-test.true) in
    passed_on _ c.in_err-fitted.field-0.0 c.from_residual.result c.from_residual.ensures.0 c.from_residual.ensures.1
    (subst (λ meant. Says meant (Err c.in_err-fitted.field-0.0)) c.loop-index.invariant.0
    (went_wrong _ _ (λ next. fit_parts (map (judge c.args.around.now) (drop (c.loop-index.index + 1) c.args.args.now)) (drop (c.loop-index.index + 1) c.args.parts.now) next.ty next.height c.loop-index.scope) c.in_err-fitted.field-0.0
    (part_next c.args.around.now c.args.args.now c.args.parts.now c.loop-index.index c.index-args-index.result _ c.loop-index.fitted c.loop-index.scope c.loop-index-test.true typed c.index-args-index.is (get_or_default c.args.parts.now c.loop-index.index _ _ typed))
    c.in_err-fitted.ensures.says))

pub fit_parts-loop-index-preserved : goal.fit_parts-loop-index-preserved
fit_parts-loop-index-preserved t c =
    let typed : c.loop-index.index < length c.args.parts.now = omega (arith, c.requires, c.loop-index-test.true) in (
      ap (λ scope. fit_parts (map (judge c.args.around.now) (drop (c.loop-index.index + 1) c.args.args.now)) (drop (c.loop-index.index + 1) c.args.parts.now) c.in_ok-fitted.fitted.ty c.in_ok-fitted.fitted.height scope) c.in_ok-fitted.ensures.keeps
          ∙ sym (went _ _ (λ next. fit_parts (map (judge c.args.around.now) (drop (c.loop-index.index + 1) c.args.args.now)) (drop (c.loop-index.index + 1) c.args.parts.now) next.ty next.height c.loop-index.scope) _
          (part_next c.args.around.now c.args.args.now c.args.parts.now c.loop-index.index c.index-args-index.result _ c.loop-index.fitted c.loop-index.scope c.loop-index-test.true typed c.index-args-index.is (get_or_default c.args.parts.now c.loop-index.index _ _ typed))
          c.in_ok-fitted.ensures.says)
          ∙ c.loop-index.invariant.0,
      c.in_ok-fitted.ensures.keeps ∙ c.loop-index.invariant.1,
    )
