use Rattle.std.proofs.Common.{sym, ◌∙◌}
use Rattle.dsde_executive_planner.proofs.Placing.{free-behind, one-less}
use Rattle.dsde_executive_planner.proofs.Searching.{total}
use Rattle.dsde_executive_planner.proofs.few.place_of.Goals as goal

pub returns-in-Less : goal.returns-in-Less
returns-in-Less c =
    let known = c.loop-index.invariant in
    free-behind total c.args.entries.now c.loop-index.index c.args.name.now c.index-entries-index.result c.requires c.loop-index-test.true known.0 (sym c.compare_names.ensures.order ∙ c.in-Less.is) known.1

pub loop-index-preserved : goal.loop-index-preserved
loop-index-preserved c =
    let known = c.loop-index.invariant in
    one-less c.args.entries.now c.loop-index.index c.args.name.now c.index-entries-index.result c.loop-index-test.true known.0 (sym c.compare_names.ensures.order ∙ c.in-Greater.is) known.1
