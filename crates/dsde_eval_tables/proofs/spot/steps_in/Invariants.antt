-- The steps that are left lead from here to where all of them lead.
use Rattle.std.proofs.Common.{◌≡◌, drop}
use Rattle.dsde_eval_tables.specs.Spots.{reached}
use Rattle.dsde_eval_tables.proofs.spot.steps_in.Given as goal

abbrev pub invariant-loop-step : goal.invariant-loop-step
invariant-loop-step l = reached (drop l.step-index l.step-items) l.here ≡ reached l.steps l.own
