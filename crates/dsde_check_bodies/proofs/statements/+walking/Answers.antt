use Rattle.std.proofs.Common.{◌+◌, drop, map, ap, ◌∙◌}
use Rattle.dsde_language.specs.Blocks.{walk, walk_all, walk_arm}
use Rattle.dsde_check_expressions.specs.lemmas.Walking.{walk_went, walk_failed, arm_went, arm_failed, grown}
use Rattle.dsde_check_bodies.proofs.statements.+walking.Goals as goal

pub stmts-loop-each-preserved : goal.stmts-loop-each-preserved
stmts-loop-each-preserved t c = (
  ap (λ height. walk_all (map (walk c.args.around.now c.args.ports.now) (drop (c.loop-each.each-index + 1) c.args.stmts.now)) height c.stmt.new.scope) c.max-height.ensures
      ∙ walk_went (walk c.args.around.now c.args.ports.now) c.args.stmts.now c.loop-each.each-index c.each-item.result c.loop-each.height _ c.loop-each.scope _ _ c.loop-each-test.true c.each-item.is c.in_ok-stmt.ensures.walks c.loop-each.invariant.0,
  grown c.args.scope.now c.loop-each.scope _ c.loop-each.invariant.1 c.in_ok-stmt.ensures.grows,
)

pub stmts-returns-in_err-stmt-clause-walks : goal.stmts-returns-in_err-stmt-clause-walks
stmts-returns-in_err-stmt-clause-walks t c =
    walk_failed (walk c.args.around.now c.args.ports.now) c.args.stmts.now c.loop-each.each-index c.each-item.result c.loop-each.height c.loop-each.scope c.stmt.new.scope _ _ c.in_err-stmt.field-0.0 c.from_residual.result c.loop-each-test.true c.each-item.is c.in_err-stmt.ensures.walks c.loop-each.invariant.0 c.from_residual.ensures.0 c.from_residual.ensures.1

pub walk_arms-loop-arm-preserved : goal.walk_arms-loop-arm-preserved
walk_arms-loop-arm-preserved t c = (
  arm_went (walk_arm c.args.around.now c.args.ports.now) c.args.arms.now c.loop-arm.arm-index c.arm-item.result c.loop-arm.height c.in_ok-height.height c.loop-arm.scope _ _ c.loop-arm-test.true c.arm-item.is c.in_ok-height.ensures.says c.in_ok-height.ensures.keeps c.loop-arm.invariant.0,
  c.in_ok-height.ensures.keeps ∙ c.loop-arm.invariant.1,
)

pub walk_arms-returns-in_err-height-clause-says : goal.walk_arms-returns-in_err-height-clause-says
walk_arms-returns-in_err-height-clause-says t c =
    arm_failed (walk_arm c.args.around.now c.args.ports.now) c.args.arms.now c.loop-arm.arm-index c.arm-item.result c.loop-arm.height c.loop-arm.scope _ c.in_err-height.field-0.0 c.from_residual.result c.loop-arm-test.true c.arm-item.is c.in_err-height.ensures.says c.loop-arm.invariant.0 c.from_residual.ensures.0 c.from_residual.ensures.1
