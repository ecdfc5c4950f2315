use Rattle.std.proofs.Common.{◌∙◌, ◌+◌, ap, sym, arith, drop, List}
use Rattle.dsde_routes_wiring.specs.declared.row.Passing.{Passing}
use Rattle.dsde_routes_wiring.specs.declared.wiring.WiredKid.{WiredKid}
use Rattle.dsde_routes_wiring.specs.declared.wiring.WiredKid.TheViews.{out-Wiring}
use Rattle.dsde_routes_wiring.specs.Sets.{Rows}
use Rattle.dsde_routes.specs.Passing.{come_of, rows_by}
use Rattle.dsde_routes.specs.Putting.{put_all, rows_to_kid, rows_to_kids}
use Rattle.dsde_routes.proofs.Flows.{net-rows, put-append, kids-more, kids-done}
use Rattle.dsde_routes.proofs.Numbered.{ok-map}
use Rattle.dsde_routes.proofs.flowing.+flowing.Goals as goal

pub put_beneath-returns-clause-rows : goal.put_beneath-returns-clause-rows
put_beneath-returns-clause-rows g t c =
    let net = c.args.net.now in
    let boss = (out-Wiring net).boss in
    ok-map c.put_rows.result _ _
    (λ is. is
    ∙ ap (λ (list : List Passing). put_all c.put_kids.new.table (rows_by boss list)) c.as_slice-2.ensures
    ∙ ap (λ (table : Rows). put_all table (rows_by boss c.in_ok-comes.comes.boss)) (c.in_ok-put_kids.ensures.rows ∙ ap (λ (kids : List WiredKid). put_all c.args.table.now (rows_to_kids c.in_ok-comes.comes kids)) c.as_slice.ensures)
    ∙ sym (put-append c.args.table.now (rows_to_kids c.in_ok-comes.comes (out-Wiring net).kids) (rows_by boss c.in_ok-comes.comes.boss))
    ∙ ap (put_all c.args.table.now) (net-rows net (come_of c.args.come) c.in_ok-comes.comes c.in_ok-comes.ensures.boss c.in_ok-comes.ensures.kids))
    c.put_rows.ensures.rows

pub put_beneath-returns-clause-ticks : goal.put_beneath-returns-clause-ticks
put_beneath-returns-clause-ticks g t c =
    ok-map c.put_rows.result _ _ (λ is. omega (arith, is, c.in_ok-put_kids.ensures.ticks)) c.put_rows.ensures.ticks

pub put_kids-loop-kid-preserved : goal.put_kids-loop-kid-preserved
put_kids-loop-kid-preserved g t c = (
  ap (λ (table : Rows). put_all table (rows_to_kids c.args.comes.now (drop (c.loop-kid.kid-index + 1) c.args.kids.now))) (c.in_ok-put_kid.ensures.rows ∙ ap (λ (list : List Passing). put_all c.loop-kid.table (rows_to_kid c.kid-item.result list)) c.to.ensures)
      ∙ sym (kids-more c.args.comes.now c.loop-kid.table c.args.kids.now c.loop-kid.kid-index c.kid-item.result c.loop-kid-test.true c.kid-item.is)
      ∙ c.loop-kid.invariant.0,
  omega (arith, c.in_ok-put_kid.ensures.ticks, c.loop-kid.invariant.1),
)

pub put_kids-returns-clause-rows : goal.put_kids-returns-clause-rows
put_kids-returns-clause-rows g t c = kids-done c.args.comes.now c.loop-kid.table _ c.args.kids.now c.loop-kid.kid-index c.loop-kid-test.false c.loop-kid.invariant.0
