use Rattle.std.proofs.Common.{◌+ℤ◌, pos, to_z, of_z, w64}
use Rattle.std.proofs.Math.Facts.{Fits-of_z, to_z-of_z, sfits_to_z}
use Rattle.dsde_eval_operators.proofs.Counting.{next-fits, numbers-step}
use Rattle.dsde_eval_operators.proofs.lists.numbers_between.Goals as goal

pub loop-number-preserved : goal.loop-number-preserved
loop-number-preserved c =
    let test = c.loop-number-test.true in
    let number = to_z w64 c.loop-number.number-bits in
    let end = to_z w64 (of_z w64 c.args.end) in
    let next = to_z w64 (of_z w64 (number +ℤ pos 1)) in
    let fits = next-fits number end test (sfits_to_z c.loop-number.auto.number) (sfits_to_z (Fits-of_z c.ranges.end)) in
    numbers-step number end next c.loop-number.items c.push.new.self _ test (to_z-of_z fits) c.in_ok-push.ensures.ok c.loop-number.invariant
