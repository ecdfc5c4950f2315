use Rattle.std.proofs.Common.{◌+◌, arith, subst}
use Rattle.dsde_repair.specs.Rising.{IsBefore}
use Rattle.dsde_repair.proofs.Loops.{order-next, order-last, whole-tail}
use Rattle.dsde_repair.proofs.names.are_in_order.Goals as goal

pub loop-index-preserved : goal.loop-index-preserved
loop-index-preserved c =
    order-next c.args.names.now c.loop-index.index c.index-names-index.result c.loop-index-test.true c.index-names-index.is (subst (IsBefore c.index-names-index.result) (whole-tail c.args.names.now (c.loop-index.index + 1)) c.if-not-is_before.ensures) c.loop-index.invariant

pub returns : goal.returns
returns c = order-last c.args.names.now c.loop-index.index (omega arith) c.loop-index.invariant
