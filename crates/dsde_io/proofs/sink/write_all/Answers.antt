use Rattle.std.proofs.Common.{arith}
use Rattle.std.proofs.lemmas.Result.{err_from_is_err_and}
use Rattle.dsde_io.proofs.Gained.{gains_both, gains_none, gains_all, gains_front}
use Rattle.dsde_io.proofs.sink.write_all.Goals as goal

pub loop-done-init : goal.loop-done-init
loop-done-init g c = record {
  within = omega arith;
  gained = gains_none _ c.args.bytes.now;
  counted = omega arith;
}

pub loop-done-preserved : goal.loop-done-preserved
loop-done-preserved g c =
    let some = c.in_ok-done.ensures.within in
    record {
      within = omega arith;
      gained = gains_both _ _ _ _ _ _ c.loop-done.invariant.gained c.in_ok-done.ensures.gained;
      counted = omega (arith, c.write.ensures.counted);
    }

pub returns-in_err-done-clause-front : goal.returns-in_err-done-clause-front
returns-in_err-done-clause-front g c =
    let p = err_from_is_err_and c.from_residual.result c.from_residual.ensures.1 in
    rw p.1 (gains_front _ _ _ _ _ c.loop-done-test.true c.loop-done.invariant.gained c.in_err-done.ensures.kept)

pub returns-clause-gained : goal.returns-clause-gained
returns-clause-gained g c =
    gains_all _ _ _ _ c.loop-done-test.false c.loop-done.invariant.gained
