use Rattle.std.proofs.Common.{◌+◌, drop, map, rules, sym, ap, subst, ◌∙◌}
use Rattle.dsde_language.specs.Blocks.{walk_all}
use Rattle.dsde_language.specs.RuleStructures.{item_walk}
use Rattle.dsde_check_expressions.specs.given.check_scope.Says.{Says, Walks}
use Rattle.dsde_check_structures.specs.Parts.{item_arm_walk}
use Rattle.dsde_check_expressions.specs.lemmas.Walking.{walk_went, walk_failed, arm_went, arm_failed, grown}
use Rattle.dsde_check_structures.proofs.Opened.{arm_opened, item_for}
use Rattle.dsde_check_structures.proofs.items.+walking.Goals as goal

pub arm_walk-returns-in_err-tested-clause-says : goal.arm_walk-returns-in_err-tested-clause-says
arm_walk-returns-in_err-tested-clause-says t c =
    subst (λ meant. Says meant c.from_residual.result) (sym (arm_opened c.args.site.now c.args.arm.now c.args.height c.args.scope.now)) (search rules)

pub arm_walk-returns-clause-says : goal.arm_walk-returns-clause-says
arm_walk-returns-clause-says t c =
    subst (λ meant. Says meant c.inner.result) (sym (arm_opened c.args.site.now c.args.arm.now c.args.height c.args.scope.now)) (search rules)

pub item-returns-in-For-clause-walks : goal.item-returns-in-For-clause-walks
item-returns-in-For-clause-walks t c =
    subst (λ meant. Walks meant c.for_of.result c.for_of.new.scope)
    (sym (ap (λ i. item_walk c.args.site.now i c.args.scope.now) c.in-For.is ∙ item_for c.args.site.now c.in-For.name c.in-For.list c.in-For.body c.args.scope.now))
    (search rules)

pub walk_all-loop-own-preserved : goal.walk_all-loop-own-preserved
walk_all-loop-own-preserved t c = (
  ap (λ height. walk_all (map (item_walk c.args.site.now) (drop (c.loop-own.own-index + 1) c.args.items.now)) height c.item.new.scope) c.max-height.ensures
      ∙ walk_went (item_walk c.args.site.now) c.args.items.now c.loop-own.own-index c.own-item.result c.loop-own.height _ c.loop-own.scope _ _ c.loop-own-test.true c.own-item.is c.in_ok-item.ensures.walks c.loop-own.invariant.0,
  grown c.args.scope.now c.loop-own.scope _ c.loop-own.invariant.1 c.in_ok-item.ensures.grows,
)

pub walk_all-returns-in_err-item-clause-walks : goal.walk_all-returns-in_err-item-clause-walks
walk_all-returns-in_err-item-clause-walks t c =
    walk_failed (item_walk c.args.site.now) c.args.items.now c.loop-own.own-index c.own-item.result c.loop-own.height c.loop-own.scope c.item.new.scope _ _ c.in_err-item.field-0.0 c.from_residual.result c.loop-own-test.true c.own-item.is c.in_err-item.ensures.walks c.loop-own.invariant.0 c.from_residual.ensures.0 c.from_residual.ensures.1

pub arms_walk-loop-arm-preserved : goal.arms_walk-loop-arm-preserved
arms_walk-loop-arm-preserved t c = (
  arm_went (item_arm_walk c.args.site.now) c.args.arms.now c.loop-arm.arm-index c.arm-item.result c.loop-arm.height c.in_ok-height.height c.loop-arm.scope _ _ c.loop-arm-test.true c.arm-item.is c.in_ok-height.ensures.says c.in_ok-height.ensures.keeps c.loop-arm.invariant.0,
  c.in_ok-height.ensures.keeps ∙ c.loop-arm.invariant.1,
)

pub arms_walk-returns-in_err-height-clause-says : goal.arms_walk-returns-in_err-height-clause-says
arms_walk-returns-in_err-height-clause-says t c =
    arm_failed (item_arm_walk c.args.site.now) c.args.arms.now c.loop-arm.arm-index c.arm-item.result c.loop-arm.height c.loop-arm.scope _ c.in_err-height.field-0.0 c.from_residual.result c.loop-arm-test.true c.arm-item.is c.in_err-height.ensures.says c.loop-arm.invariant.0 c.from_residual.ensures.0 c.from_residual.ensures.1
