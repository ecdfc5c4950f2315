use Rattle.std.proofs.Common.{◌∙◌, ap, arith, List}
use Rattle.dsde_routes_wiring.specs.declared.row.Passing.{Passing}
use Rattle.dsde_routes_wiring.specs.declared.wiring.WiredKid.TheViews.{out-Wiring}
use Rattle.dsde_routes_wiring.specs.Sets.{Rows}
use Rattle.dsde_routes.specs.Passing.{rows_by}
use Rattle.dsde_routes.specs.Putting.{out_passing, put_all}
use Rattle.dsde_routes.proofs.Numbered.{ok-map}
use Rattle.dsde_routes.proofs.flowing.put_whole.Goals as goal

pub returns-clause-rows : goal.returns-clause-rows
returns-clause-rows g c =
    let me = (out-Wiring c.args.wiring.now).me in
    ok-map c.put_rows.result _ _
    (λ is. is
    ∙ ap (λ (list : List Passing). put_all c.put_beneath.new.table (rows_by me list)) (c.as_slice.ensures ∙ c.in_ok-list.ensures.list)
    ∙ ap (λ (table : Rows). put_all table (rows_by me (out_passing c.args.wiring.now))) c.in_ok-put_beneath.ensures.rows)
    c.put_rows.ensures.rows

pub returns-clause-ticks : goal.returns-clause-ticks
returns-clause-ticks g c = ok-map c.put_rows.result _ _ (λ is. omega (arith, is, c.in_ok-put_beneath.ensures.ticks)) c.put_rows.ensures.ticks
