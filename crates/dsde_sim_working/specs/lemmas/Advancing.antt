-- A turn of an engine.
use Rattle.std.proofs.Common.{◌≡◌, ℕ, ◌+◌, min, List, Option, Some, None, IfSome, Ok, Err, refl, subst, ◌∙◌, arith}
use Rattle.dsde_syntax.specs.declared.decl.Model.{Model}
use Rattle.dsde_values.specs.declared.arrival.Arrival.{Arrival}
use Rattle.dsde_values.specs.declared.when.When.{When}
use Rattle.dsde_values.specs.declared.when.When.TheVariants.{At, Never}
use Rattle.dsde_values.specs.When.{IsMoment}
use Rattle.dsde_sim_tree.specs.given.formalism.System.{System}
use Rattle.dsde_sim_tree.specs.declared.event.Event.{Event}
use Rattle.dsde_sim_tree.specs.declared.fault.TurnEnd.{TurnEnd}
use Rattle.dsde_sim_tree.specs.Told.{Told, Tells, ◌then◌}
use Rattle.dsde_system.specs.Fitting.{IsInTime}
use Rattle.dsde_sim_tree.specs.declared.sim.Sim.{Sim}
use Rattle.dsde_sim_tree.specs.Tree.{next_time, model_of}
use Rattle.dsde_sim_tree.specs.declared.step.Step.{Step}
use Rattle.dsde_sim_tree.specs.declared.step.Step.TheVariants.{Turned}
use Rattle.dsde_sim_tree.specs.Engine.{Engine, turned}
use Rattle.dsde_sim_tree.specs.Turn.{turn, turn_time, is_taken, items_at, after_turn, advance}
use Rattle.dsde_sim_moving.specs.given.sim_telling.lemmas_GoingOn.{GoesOn, goes-begin, goes-step, goes-stops, goes-end}
use Rattle.dsde_sim_moving.specs.Fitting.{FitsTree}
use Rattle.dsde_sim_working.specs.Working.{Comes, FitsItems}
use Rattle.dsde_sim_moving.specs.Stood.{stood}
use Rattle.dsde_sim_working.specs.lemmas.Times.{in-time}
use Rattle.std.specs.Prelude.{if◌then◌else◌, ◌==◌, Bool, true, false, []}

-- the next turn of an engine with this tree, at this time
pub advance-at : (system : System) (engine : Engine) (tree : Sim) (head : Option Arrival) (time : ℕ) → engine.tree ≡ Some tree → turn_time (next_time tree) head ≡ Some time
    → advance system engine head ≡ (turn system tree (engine.turn + 1) time (items_at head time) then after_turn engine head time)
advance-at system engine tree head time is at = with_tree engine.tree refl is
  where
    with_tree : (own : Option Sim) → engine.tree ≡ own → own ≡ Some tree → advance system engine head ≡ (turn system tree (engine.turn + 1) time (items_at head time) then after_turn engine head time)
    with_tree own same here =
        rw (same ∙ here) (rw at refl)

pub advance-goes : (system : System) (engine : Engine) (tree : Sim) (head : Option Arrival) (time : ℕ) (old : List Event) → engine.tree ≡ Some tree → turn_time (next_time tree) head ≡ Some time
    → GoesOn (advance system engine head) (turn system tree (engine.turn + 1) time (items_at head time) then after_turn engine head time) old old
advance-goes system engine tree head time old is at =
    subst (λ (rest : Told (Step × Engine)). GoesOn (advance system engine head) rest old old) (advance-at system engine tree head time is at) (goes-begin (advance system engine head) old)

-- the next turn came to an end
pub advance-ok : (system : System) (engine : Engine) (tree : Sim) (head : Option Arrival) (time : ℕ) (after : Sim) (old new : List Event) → engine.tree ≡ Some tree → turn_time (next_time tree) head ≡ Some time
    → Tells (turn system tree (engine.turn + 1) time (items_at head time)) old new (Ok after)
    → Tells (advance system engine head) old new (Ok (Turned (is_taken head time), turned engine after time (is_taken head time)))
advance-ok system engine tree head time after old new is at tells =
    let whole = advance system engine head in
    goes-end whole (Turned (is_taken head time), turned engine after time (is_taken head time)) old new
    (goes-step whole (turn system tree (engine.turn + 1) time (items_at head time)) (after_turn engine head time) old old new after
    (advance-goes system engine tree head time old is at) tells.0 tells.1)

-- the next turn came to none
pub advance-err : (system : System) (engine : Engine) (tree : Sim) (head : Option Arrival) (time : ℕ) (end : TurnEnd) (old new : List Event) → engine.tree ≡ Some tree → turn_time (next_time tree) head ≡ Some time
    → Tells (turn system tree (engine.turn + 1) time (items_at head time)) old new (Err end) → Tells (advance system engine head) old new (Err end)
advance-err system engine tree head time end old new is at tells =
    goes-stops (advance system engine head) (turn system tree (engine.turn + 1) time (items_at head time)) (after_turn engine head time) old old new end
    (advance-goes system engine tree head time old is at) tells

-- a turn is at a moment of a run
pub turn-moment : (next : When) (head : Option Arrival) (time : ℕ) → IsInTime next → IfSome head (λ (own : Arrival). IsMoment own.time) → turn_time next head ≡ Some time → IsMoment time
turn-moment (At due) (Some head) time next comes at = let is : min due head.time ≡ time = cc at in subst IsMoment is (omega (arith, next, comes))
turn-moment (At due) None time next comes at = let is : due ≡ time = cc at in subst IsMoment is next
turn-moment Never (Some head) time next comes at = let is : head.time ≡ time = cc at in subst IsMoment is comes
turn-moment Never None time next comes at = absurd (cc at)

module _ (model : Model) (tree : Sim) (fits : FitsTree model tree) where
  pub head-early : (head : Option Arrival) → IfSome head (Comes model (model_of tree)) → IfSome head (λ (own : Arrival). IsMoment own.time)
  head-early None comes = tt
  head-early (Some head) comes = comes.early

  -- nothing comes where the head is not taken
  none-come : FitsItems model (model_of tree).0 []
  none-come = let stands = stood model tree fits in record { own = stands.stands; found = stands.found; come = tt }

  pub items-fit : (head : Option Arrival) (time : ℕ) → IfSome head (Comes model (model_of tree)) → FitsItems model (model_of tree).0 (items_at head time)
  items-fit None time comes = none-come
  items-fit (Some head) time comes = by_case (head.time == time)
    where
      by_case : (same : Bool) → FitsItems model (model_of tree).0 (if same then head.items else [])
      by_case true = comes.fits
      by_case false = none-come

-- The next turn is at a moment of a run, and what it takes of a head that comes to the tree fits the root.
pub turn-comes : (model : Model) (tree : Sim) (head : Option Arrival) (time : ℕ) → FitsTree model tree → IfSome head (Comes model (model_of tree)) → turn_time (next_time tree) head ≡ Some time →
    IsMoment time × FitsItems model (model_of tree).0 (items_at head time)
turn-comes model tree head time fits comes found = (
  turn-moment (next_time tree) head time (in-time model tree fits) (head-early model tree fits head comes) found,
  items-fit model tree fits head time comes,
)
