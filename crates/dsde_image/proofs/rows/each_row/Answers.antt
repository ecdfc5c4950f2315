use Rattle.std.proofs.lemmas.Result.{err_from_is_err_and}
use Rattle.dsde_image.specs.Form.{row_of}
use Rattle.dsde_image.proofs.Each.{goes-on, fails, is-done}
use Rattle.dsde_image.proofs.rows.each_row.Goals as goal

pub returns-in_err-row_of : goal.returns-in_err-row_of
returns-in_err-row_of c =
    let p = err_from_is_err_and c.from_residual.result c.from_residual.ensures.1 in
    rw (p.1, p.2) (fails (row_of c.args.version) c.loop-item.rows c.args.items.now c.loop-item.item-index c.item-item.result _ c.in_err-row_of.field-0.0 c.loop-item-test.true c.item-item.is c.in_err-row_of.ensures c.loop-item.invariant)

pub returns : goal.returns
returns c = is-done (row_of c.args.version) c.loop-item.rows c.args.items.now c.loop-item.item-index _ c.loop-item-test.false c.loop-item.invariant

pub loop-item-preserved : goal.loop-item-preserved
loop-item-preserved c =
    rw c.in_ok-push.ensures.ok
    (goes-on (row_of c.args.version) c.loop-item.rows c.args.items.now c.loop-item.item-index c.item-item.result c.in_ok-row_of.field-0 _ c.loop-item-test.true c.item-item.is c.in_ok-row_of.ensures c.loop-item.invariant)
