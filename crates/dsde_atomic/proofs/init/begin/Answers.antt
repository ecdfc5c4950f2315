use Rattle.std.proofs.lemmas.Result.{err_from_is_err_and}
use Rattle.dsde_atomic.proofs.Inits.{init-start, init-can, init-next, init-end, init-last, init-at, init-all}
use Rattle.dsde_atomic.proofs.init.begin.Goals as goal

pub loop-number-init : goal.loop-number-init
loop-number-init c = rw c.as_slice-numbers.ensures (init-start c.args.program.now c.args.model.0 c.args.env.now.slots c.code_of-code.result.now c.code_of-code.ensures c.requires)

pub eval-requires : goal.eval-requires
eval-requires c =
    init-can c.args.program.now c.args.model.0 c.args.env.now.slots _ _ c.loop-number.env.slots
    (init-at c.args.program.now c.args.model.0 c.args.env.now.slots c.as_slice-numbers.result.now c.loop-number.number-index c.loop-number.env.slots c.loop-number-test.true c.loop-number.invariant)

pub loop-number-preserved : goal.loop-number-preserved
loop-number-preserved c =
    let grown = c.in_ok-push.ensures.ok in
    let kept = c.eval.ensures.keeps in
    rw (grown, kept)
    (init-next c.args.program.now c.args.model.0 c.args.env.now.slots _ _ c.loop-number.env.slots
    (init-at c.args.program.now c.args.model.0 c.args.env.now.slots c.as_slice-numbers.result.now c.loop-number.number-index c.loop-number.env.slots c.loop-number-test.true c.loop-number.invariant)
    c.eval.result c.eval.ensures.means c.in_ok-value.value c.in_ok-value.was)

pub returns-in_err-value : goal.returns-in_err-value
returns-in_err-value c =
    let p = err_from_is_err_and c.from_residual.result c.from_residual.ensures.1 in
    rw (p.1, p.2)
    (init-end c.args.program.now c.args.model.0 c.args.env.now.slots _ _ c.loop-number.env.slots
    (init-at c.args.program.now c.args.model.0 c.args.env.now.slots c.as_slice-numbers.result.now c.loop-number.number-index c.loop-number.env.slots c.loop-number-test.true c.loop-number.invariant)
    c.eval.result c.eval.ensures.means c.in_err-value.field-0.0 c.in_err-value.was)

pub returns : goal.returns
returns c =
    init-last c.args.program.now c.args.model.0 c.args.env.now.slots c.loop-number.env.slots
    (init-all c.args.program.now c.args.model.0 c.args.env.now.slots c.as_slice-numbers.result.now c.loop-number.number-index c.loop-number.env.slots c.loop-number-test.false c.loop-number.invariant)
