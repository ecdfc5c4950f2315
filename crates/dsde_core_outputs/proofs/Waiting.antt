-- Those who move wait with their pairs out of the schedule.
use Rattle.std.proofs.Common.{ℕ, List, map, Result, Ok, Err, IfOk, inl, inr}
use Rattle.dsde_bank.specs.declared.handle.Handle.{Handle}
use Rattle.dsde_syntax.specs.declared.decl.Model.{Model}
use Rattle.dsde_queue.specs.Queue.{Queue}
use Rattle.dsde_grove.specs.Grove.{Grove}
use Rattle.dsde_sim_tree.specs.declared.fault.TurnEnd.{TurnEnd}
use Rattle.dsde_core_parcels.specs.given.core_flat.spot_Spot.{Spot}
use Rattle.dsde_core_parcels.specs.given.core_flat.Scheduled.{IsScheduledBut}
use Rattle.dsde_core_parcels.specs.given.core_flat.due_Due.{Due}
use Rattle.dsde_core_parcels.specs.given.core_flat.Due as due
use Rattle.dsde_core_parcels.specs.given.core_moves.flat_Flat.{Flat}
use Rattle.dsde_core_parcels.specs.given.core_moves.Flat.{Stands}
use Rattle.dsde_core_parcels.specs.given.core_moves.phase_Phase.{Phase}
use Rattle.dsde_core_parcels.specs.given.core_moves.Movers.{handle_of, list_of, with_queue, Wait}

-- a flat state stands with any schedule
pub stands-with : (model : Model) (flat : Flat) (queue : Queue) → Stands model flat → Stands model (with_queue flat queue)
stands-with model flat queue stands = record { stands = stands.stands; fits = stands.fits; tree = stands.tree; rows = stands.rows }

-- who is due waits with those who move
pub waits-by : (own : Grove Spot) (dues : List Due) (pairs : List (ℕ × Handle)) → IsScheduledBut own (map due.handle_of dues) pairs → (result : Result Phase TurnEnd) → IfOk result (λ phase. Wait dues (list_of phase.movers)) →
    IfOk result (λ phase. IsScheduledBut own (map handle_of (list_of phase.movers)) pairs)
waits-by own dues pairs but (Ok phase) wait = record {
  due = λ handle leaf next held at. elim (but.due handle leaf next held at) [
    | inl waits ↦ inl (wait handle waits)
    | inr there ↦ inr there
  ];
}
waits-by own dues pairs but (Err end) wait = tt
