use Rattle.std.proofs.Common.{subst}
use Rattle.std.specs.List.{AllByRecursion}
use Rattle.dsde_core_moves.specs.given.system.Program.{system}
use Rattle.dsde_core_parcels.specs.Parcels.{ArePushed, GoFrom}
use Rattle.dsde_core_parcels.proofs.Pushing.{port-more, rows-go, none-more}
use Rattle.dsde_core_parcels.proofs.parcel.push_all.Goals as goal

pub push_along-requires : goal.push_along-requires
push_along-requires c =
    rows-go c.args.program.now c.args.table.now c.in-Some.outlet.now c.as_slice.result.now c.rows_from-rows.result.now
    (subst (AllByRecursion (GoFrom c.args.program.now c.args.table.now)) c.in-Some.ensures.cases.0 c.loop-outlet.invariant.1).0
    c.as_slice.ensures c.rows_from-rows.ensures.each

pub loop-outlet-preserved : goal.loop-outlet-preserved
loop-outlet-preserved c = (
  port-more c.args.table.now (system c.args.program.now).translate c.in-Some.outlet.now c.loop-outlet.rest.now c.in-Some.later.now c.rows_from-rows.result.now c.as_slice.result.now c.loop-outlet.parcels c.push_along.new.parcels
      (ArePushed c.args.table.now (system c.args.program.now).translate c.args.outlets.now)
      c.loop-outlet.invariant.0 c.in-Some.ensures.cases.0 (record { each = c.rows_from-rows.ensures.each; once = c.rows_from-rows.ensures.once }) c.as_slice.ensures c.in_ok-push_along.ensures,
  (subst (AllByRecursion (GoFrom c.args.program.now c.args.table.now)) c.in-Some.ensures.cases.0 c.loop-outlet.invariant.1).1,
)

pub returns : goal.returns
returns c =
    none-more c.args.table.now (system c.args.program.now).translate c.loop-outlet.rest.now c.loop-outlet.parcels
    (ArePushed c.args.table.now (system c.args.program.now).translate c.args.outlets.now)
    c.loop-outlet.invariant.0 c.in_default.ensures.cases
