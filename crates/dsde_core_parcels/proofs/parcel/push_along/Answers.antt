use Rattle.dsde_core_moves.specs.given.system.Program.{system}
use Rattle.dsde_core_parcels.proofs.Pushing.{row-goes, row-more, rows-later}
use Rattle.dsde_core_parcels.proofs.parcel.push_along.Goals as goal

pub all_along-requires : goal.all_along-requires
all_along-requires c =
    row-goes c.args.program.now c.args.values.now c.loop-row.rest.now c.in-Some.row.now c.in-Some.later.now c.as_slice.result.now c.loop-row.invariant.1 c.in-Some.ensures.cases.0 c.as_slice.ensures

pub loop-row-preserved : goal.loop-row-preserved
loop-row-preserved c = (
  row-more (system c.args.program.now).translate c.args.values.now c.in_ok-made.made c.as_slice.result.now c.in-Some.row.now c.loop-row.rest.now c.in-Some.later.now c.loop-row.parcels c.put.new.parcels _
      c.loop-row.invariant.0 c.in-Some.ensures.cases.0 c.as_slice.ensures c.in_ok-made.ensures c.in_ok-put.ensures,
  rows-later c.args.program.now c.args.values.now c.loop-row.rest.now c.in-Some.row.now c.in-Some.later.now c.loop-row.invariant.1 c.in-Some.ensures.cases.0,
)
