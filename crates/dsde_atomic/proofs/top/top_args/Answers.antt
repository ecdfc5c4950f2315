use Rattle.std.proofs.Common.{List, sym, ◌∙◌, ap, subst, slice_index_or}
use Rattle.dsde_values.specs.declared.value.Value.{Value}
use Rattle.dsde_eval.specs.declared.env.Env.{Env}
use Rattle.dsde_system.specs.given.sound_expressions.Conditions.{CanEval, Came}
use Rattle.dsde_atomic.proofs.Tops.{top-start, top-can, top-next, top-end, top-at, top-all, top-gives, top-fits}
use Rattle.dsde_atomic.proofs.top.top_args.Goals as goal

pub loop-number-init : goal.loop-number-init
loop-number-init c =
    let slice = c.as_slice-numbers.ensures in
    let numbers = c.top_args.ensures in
    let none = c.new-args.ensures in
    (rw (slice, numbers, none) (top-start c.args.program.now (c.laws.ensures.tops c.args.program.now c.right.ensures)), c.new.ensures)

pub eval-requires : goal.eval-requires
eval-requires c =
    subst (λ (l : List Value). CanEval c.args.program.now (slice_index_or c.as_slice-numbers.result.now c.loop-number.number-index (record { 0 = 0 })).0 l) (sym c.loop-number.invariant.1)
    (top-can c.args.program.now _ _ c.loop-number.args (top-at c.args.program.now c.as_slice-numbers.result.now c.loop-number.number-index c.loop-number.args c.loop-number-test.true c.loop-number.invariant.0))

pub returns-in-Err-clause-gives : goal.returns-in-Err-clause-gives
returns-in-Err-clause-gives c =
    rw c.at_site.ensures
    (top-end c.args.program.now _ _ c.loop-number.args (top-at c.args.program.now c.as_slice-numbers.result.now c.loop-number.number-index c.loop-number.args c.loop-number-test.true c.loop-number.invariant.0)
    c.eval.result (subst (λ (l : List Value). Came c.args.program.now (slice_index_or c.as_slice-numbers.result.now c.loop-number.number-index (record { 0 = 0 })).0 l c.eval.result) c.loop-number.invariant.1 c.eval.ensures.means) c.in-Err.end c.in-Err.is)

pub loop-number-preserved : goal.loop-number-preserved
loop-number-preserved c =
    let grown = c.in_ok-push-in-Ok.ensures.ok in (
      rw grown
          (top-next c.args.program.now _ _ c.loop-number.args (top-at c.args.program.now c.as_slice-numbers.result.now c.loop-number.number-index c.loop-number.args c.loop-number-test.true c.loop-number.invariant.0)
          c.eval.result (subst (λ (l : List Value). Came c.args.program.now (slice_index_or c.as_slice-numbers.result.now c.loop-number.number-index (record { 0 = 0 })).0 l c.eval.result) c.loop-number.invariant.1 c.eval.ensures.means) c.in-Ok.value c.in-Ok.is),
      ap (λ (e : Env). e.slots) c.eval.ensures.keeps ∙ c.loop-number.invariant.1,
    )

pub returns-clause-gives : goal.returns-clause-gives
returns-clause-gives c =
    top-gives c.args.program.now c.loop-number.args
    (top-all c.args.program.now c.as_slice-numbers.result.now c.loop-number.number-index c.loop-number.args c.loop-number-test.false c.loop-number.invariant.0)

pub returns-clause-fits : goal.returns-clause-fits
returns-clause-fits c =
    top-fits c.args.program.now c.loop-number.args
    (top-all c.args.program.now c.as_slice-numbers.result.now c.loop-number.number-index c.loop-number.args c.loop-number-test.false c.loop-number.invariant.0)
