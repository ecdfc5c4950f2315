use Rattle.std.proofs.Common.{◌+◌, drop, map, ap, ◌∙◌}
use Rattle.dsde_language.specs.Blocks.{state_of, walk_all}
use Rattle.dsde_check_expressions.specs.lemmas.Walking.{walk_went, walk_failed}
use Rattle.dsde_check_bodies.proofs.bodies.states.Goals as goal

pub loop-own-preserved : goal.loop-own-preserved
loop-own-preserved c =
    ap (λ height. walk_all (map (state_of c.args.around.now c.args.ports.now) (drop (c.loop-own.own-index + 1) c.args.states.now)) height c.state.new.scope) c.max-height.ensures
    ∙ walk_went (state_of c.args.around.now c.args.ports.now) c.args.states.now c.loop-own.own-index c.own-item.result c.loop-own.height _ c.loop-own.scope _ _ c.loop-own-test.true c.own-item.is c.in_ok-state.ensures c.loop-own.invariant

pub returns-in_err-state : goal.returns-in_err-state
returns-in_err-state c =
    walk_failed (state_of c.args.around.now c.args.ports.now) c.args.states.now c.loop-own.own-index c.own-item.result c.loop-own.height c.loop-own.scope c.state.new.scope _ _ c.in_err-state.field-0.0 c.from_residual.result c.loop-own-test.true c.own-item.is c.in_err-state.ensures c.loop-own.invariant c.from_residual.ensures.0 c.from_residual.ensures.1
