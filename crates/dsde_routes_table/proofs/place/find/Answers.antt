use Rattle.dsde_routes_table.proofs.Ordered.{free-behind, one-less}
use Rattle.dsde_routes_table.proofs.place.find.Goals as goal

pub returns-in-Before : goal.returns-in-Before
returns-in-Before c =
    let known = c.loop-index.invariant in
    free-behind c.args.rows.now c.loop-index.index c.args.row.now c.index-rows-index.result c.requires c.loop-index-test.true known.0 c.index-rows-index.is c.in-Before.ensures known.1 known.2

pub loop-index-preserved : goal.loop-index-preserved
loop-index-preserved c =
    let known = c.loop-index.invariant in
    one-less c.args.rows.now c.loop-index.index c.args.row.now c.index-rows-index.result c.loop-index-test.true known.0 c.index-rows-index.is c.in-Behind.ensures.0 c.in-Behind.ensures.1 known.1 known.2
