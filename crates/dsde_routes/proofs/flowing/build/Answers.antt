use Rattle.std.proofs.Common.{◌≡◌, ◌∙◌, ap, arith}
use Rattle.std.specs.FinSet as set
use Rattle.dsde_routes_wiring.specs.declared.wiring.WiredKid.TheViews.{out-Wiring}
use Rattle.dsde_routes_wiring.specs.Sets.{Rows, row_cmp}
use Rattle.dsde_routes_wiring.specs.Ways.{begin}
use Rattle.dsde_routes_wiring.specs.Flatten.{flow, flatten}
use Rattle.dsde_routes.specs.Passing.{rows_by}
use Rattle.dsde_routes.specs.Putting.{out_passing, put_all, rows_beneath}
use Rattle.dsde_routes.proofs.Flows.{whole}
use Rattle.dsde_routes.proofs.flowing.build.Goals as goal

pub returns-clause-rows : goal.returns-clause-rows
returns-clause-rows g c =
    let net = c.args.wiring.now in
    let me = (out-Wiring net).me in
    c.in_ok-put_whole.ensures.rows
    ∙ ap (λ (table : Rows). put_all (put_all table (rows_beneath (flow net) (begin me))) (rows_by me (out_passing net))) c.new-table.ensures
    ∙ whole net

pub returns-clause-ticks : goal.returns-clause-ticks
returns-clause-ticks g c =
    let none : set.len c.new-table.result ≡ 0 = ap set.len c.new-table.ensures ∙ set.len-empty row_cmp in
    let all : set.len c.put_whole.new.table ≡ set.len (flatten c.args.wiring.now) = ap set.len (returns-clause-rows g c) in
    omega (arith, none, all, c.in_ok-put_whole.ensures.ticks)
