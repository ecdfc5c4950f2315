-- What is seen of the rest, after what was seen so far, stays the same; and calls go down to parts that
-- are less deep, or to functions of a lower number.
use Rattle.std.proofs.Common.{◌≡◌, ◌+◌, ◌*◌, max, map, drop}
use denote.Param.Weighed.{most}
use Rattle.dsde_syntax.proofs.expr.Expr.TheLaws as of_expr
use Rattle.dsde_syntax.proofs.expr.SignTail.TheLaws as of_sign_tail
use Rattle.dsde_syntax.proofs.expr.Suffix.TheLaws as of_suffix
use Rattle.dsde_syntax.proofs.expr.Tail.TheLaws as of_tail
use Rattle.dsde_values.specs.declared.types.Ty.TheVariants as ty
use Rattle.dsde_language.specs.Judge.{judge, links_from, fit, all_of, fill, fit_parts, arms_of}
use Rattle.dsde_check_expressions.specs.Parts.{judge_tail, judge_sign_tail, judge_suffix, judge_arm, judge_set}
use Rattle.dsde_check_expressions.proofs.expr.+judging.Given as goal

abbrev pub invariant-tails-loop-tail : goal.invariant-tails-loop-tail
invariant-tails-loop-tail l =
    (links_from l.left (map (judge_tail l.around) (drop l.tail-index l.rest)) l.scope ≡ links_from l.fn.first (map (judge_tail l.around) l.rest) l.fn.scope)
    × (l.scope ≡ l.fn.scope)

abbrev pub invariant-sign_tails-loop-tail : goal.invariant-sign_tails-loop-tail
invariant-sign_tails-loop-tail l =
    (links_from l.left (map (judge_sign_tail l.around) (drop l.tail-index l.rest)) l.scope ≡ links_from l.fn.first (map (judge_sign_tail l.around) l.rest) l.fn.scope)
    × (l.scope ≡ l.fn.scope)

abbrev pub invariant-suffixes-loop-own : goal.invariant-suffixes-loop-own
invariant-suffixes-loop-own l =
    (links_from l.left (map (judge_suffix l.around) (drop l.own-index l.rest)) l.scope ≡ links_from l.fn.first (map (judge_suffix l.around) l.rest) l.fn.scope)
    × (l.scope ≡ l.fn.scope)

abbrev pub invariant-fit-loop-index : goal.invariant-fit-loop-index
invariant-fit-loop-index l =
    (fit (map (judge l.around) (drop l.index l.args)) (drop l.index l.params) l.height l.scope ≡ fit (map (judge l.around) l.args) l.params 0 l.fn.scope)
    × (l.scope ≡ l.fn.scope)

abbrev pub invariant-further_items-loop-item : goal.invariant-further_items-loop-item
invariant-further_items-loop-item l =
    (all_of l.first.ty (map (judge l.around) (drop l.item-index l.items)) l.height l.scope ≡ all_of l.first.ty (map (judge l.around) l.items) l.first.height l.fn.scope)
    × (l.scope ≡ l.fn.scope)

abbrev pub invariant-fill-loop-index : goal.invariant-fill-loop-index
invariant-fill-loop-index l =
    (fill (map (judge_set l.around) (drop l.index l.sets)) (drop l.index l.fields) l.height l.scope ≡ fill (map (judge_set l.around) l.sets) l.fields 0 l.fn.scope)
    × (l.scope ≡ l.fn.scope)

abbrev pub invariant-fit_parts-loop-index : goal.invariant-fit_parts-loop-index
invariant-fit_parts-loop-index l =
    (fit_parts (map (judge l.around) (drop l.index l.args)) (drop l.index l.parts) l.fitted.ty l.fitted.height l.scope ≡ fit_parts (map (judge l.around) l.args) l.parts ty.Int 0 l.fn.scope)
    × (l.scope ≡ l.fn.scope)

abbrev pub invariant-further_arms-loop-own : goal.invariant-further_arms-loop-own
invariant-further_arms-loop-own l =
    (arms_of l.first.ty (map (judge_arm l.around) (drop l.own-index l.arms)) l.height l.scope ≡ arms_of l.first.ty (map (judge_arm l.around) l.arms) l.first.height l.fn.scope)
    × (l.scope ≡ l.fn.scope)

abbrev pub decreases-judge : goal.decreases-judge
decreases-judge l = 8 * goal.size-judge l

abbrev pub decreases-or_else : goal.decreases-or_else
decreases-or_else l = 8 * (max (goal.size-or_else l) (of_expr.the_size l.right.now)) + 7

abbrev pub decreases-compare : goal.decreases-compare
decreases-compare l = 8 * (max (goal.size-compare l) (of_expr.the_size l.right.now)) + 7

abbrev pub decreases-chain : goal.decreases-chain
decreases-chain l = 8 * (max (goal.size-chain l) (most of_tail.the_size l.rest.now)) + 7

abbrev pub decreases-sign_chain : goal.decreases-sign_chain
decreases-sign_chain l = 8 * (max (goal.size-sign_chain l) (most of_sign_tail.the_size l.rest.now)) + 7

abbrev pub decreases-suffix_chain : goal.decreases-suffix_chain
decreases-suffix_chain l = 8 * (max (goal.size-suffix_chain l) (most of_suffix.the_size l.rest.now)) + 7

abbrev pub decreases-not_of : goal.decreases-not_of
decreases-not_of l = 8 * goal.size-not_of l + 1

abbrev pub decreases-neg_of : goal.decreases-neg_of
decreases-neg_of l = 8 * goal.size-neg_of l + 1

abbrev pub decreases-each_of : goal.decreases-each_of
decreases-each_of l = 8 * (max (goal.size-each_of l) (max (of_expr.the_size l.list.now) (of_expr.the_size l.value.now))) + 7

abbrev pub decreases-guarded : goal.decreases-guarded
decreases-guarded l = 8 * (max (goal.size-guarded l) (of_expr.the_size l.value.now)) + 6

abbrev pub decreases-if_of : goal.decreases-if_of
decreases-if_of l = 8 * (max (goal.size-if_of l) (of_expr.the_size l.other.now)) + 7

abbrev pub decreases-tails : goal.decreases-tails
decreases-tails l = 8 * goal.size-tails l + 1

abbrev pub decreases-link : goal.decreases-link
decreases-link l = 8 * goal.size-link l

abbrev pub decreases-sign_tails : goal.decreases-sign_tails
decreases-sign_tails l = 8 * goal.size-sign_tails l + 1

abbrev pub decreases-sign_link : goal.decreases-sign_link
decreases-sign_link l = 8 * goal.size-sign_link l

abbrev pub decreases-suffixes : goal.decreases-suffixes
decreases-suffixes l = 8 * goal.size-suffixes l + 1

abbrev pub decreases-suffix : goal.decreases-suffix
decreases-suffix l = 8 * goal.size-suffix l

abbrev pub decreases-call_to : goal.decreases-call_to
decreases-call_to l = 8 * goal.size-call_to l + 4

abbrev pub decreases-fit_all : goal.decreases-fit_all
decreases-fit_all l = 8 * goal.size-fit_all l + 3

abbrev pub decreases-fit : goal.decreases-fit
decreases-fit l = 8 * goal.size-fit l + 2

abbrev pub decreases-fit_one : goal.decreases-fit_one
decreases-fit_one l = 8 * goal.size-fit_one l + 1

abbrev pub decreases-list_of : goal.decreases-list_of
decreases-list_of l = 8 * goal.size-list_of l + 3

abbrev pub decreases-further_items : goal.decreases-further_items
decreases-further_items l = 8 * goal.size-further_items l + 2

abbrev pub decreases-new_of : goal.decreases-new_of
decreases-new_of l = 8 * goal.size-new_of l + 5

abbrev pub decreases-record_at : goal.decreases-record_at
decreases-record_at l = 8 * goal.size-record_at l + 4

abbrev pub decreases-record_of : goal.decreases-record_of
decreases-record_of l = 8 * goal.size-record_of l + 3

abbrev pub decreases-fill : goal.decreases-fill
decreases-fill l = 8 * goal.size-fill l + 2

abbrev pub decreases-builtin_of : goal.decreases-builtin_of
decreases-builtin_of l = 8 * goal.size-builtin_of l + 3

abbrev pub decreases-fit_parts : goal.decreases-fit_parts
decreases-fit_parts l = 8 * goal.size-fit_parts l + 2

abbrev pub decreases-fit_part : goal.decreases-fit_part
decreases-fit_part l = 8 * goal.size-fit_part l + 1

abbrev pub decreases-test : goal.decreases-test
decreases-test l = 8 * goal.size-test l + 2

abbrev pub decreases-test_if : goal.decreases-test_if
decreases-test_if l = 8 * goal.size-test_if l + 3

abbrev pub decreases-arm : goal.decreases-arm
decreases-arm l = 8 * goal.size-arm l

abbrev pub decreases-further_arms : goal.decreases-further_arms
decreases-further_arms l = 8 * goal.size-further_arms l + 2

abbrev pub decreases-fit_arm : goal.decreases-fit_arm
decreases-fit_arm l = 8 * goal.size-fit_arm l + 1
