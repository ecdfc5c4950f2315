use Rattle.std.proofs.Common.{◌+◌, get_or, subst}
use Rattle.dsde_bank.specs.declared.handle.Handle.{Handle}
use Rattle.dsde_repair.specs.Rising.{IsOlder}
use Rattle.dsde_repair.proofs.Loops.{rising-next, whole-tail}
use Rattle.dsde_repair.proofs.apart.are_rising.Goals as goal

pub loop-index-preserved : goal.loop-index-preserved
loop-index-preserved c =
    let none : Handle = record { birth = 0; slot = 0 } in
    rising-next c.args.handles.now c.loop-index.index none c.loop-index-test.true
    (subst (IsOlder (get_or c.args.handles.now c.loop-index.index none)) (whole-tail c.args.handles.now (c.loop-index.index + 1)) c.if-not-is_older.ensures) c.loop-index.invariant
