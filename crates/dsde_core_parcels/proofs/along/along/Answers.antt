use Rattle.std.proofs.Common.{subst}
use Rattle.dsde_core_moves.specs.given.system.Program.{system}
use Rattle.dsde_core_parcels.specs.Parcels.{KeepsTypes}
use Rattle.dsde_core_parcels.proofs.Translating.{along-further, goes-further}
use Rattle.dsde_core_parcels.proofs.along.along.Goals as goal

pub loop-via-preserved : goal.loop-via-preserved
loop-via-preserved c = (
  along-further (system c.args.program.now).translate c.loop-via.rest.now c.in-Some.via.now c.in-Some.later.now c.loop-via.own c.in-Some-2.made c.in_ok-made.field-0 _
      c.loop-via.invariant.0 c.in-Some.ensures.cases.0 c.in_ok-made.ensures.made c.in-Some-2.is,
  goes-further c.args.program.now c.loop-via.rest.now c.in-Some.via.now c.in-Some.later.now c.loop-via.own c.in-Some-2.made c.loop-via.invariant.1 c.in-Some.ensures.cases.0
      (subst (KeepsTypes c.args.program.now c.in-Some.via.now c.loop-via.own) c.in-Some-2.is c.in_ok-made.ensures.typed),
)
