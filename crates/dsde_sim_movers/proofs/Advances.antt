-- What is told of an engine's next turn is delivered.
use Rattle.std.proofs.Common.{ℕ, ◌+◌, List, [], length, drop, Option, Some, None, IfSome, IfOk, IfErr, Result, Ok, Err, sym, subst, append-nil}
use Rattle.dsde_values.specs.declared.arrival.Arrival.{Arrival}
use Rattle.dsde_values.specs.declared.arrival.Item.{Item}
use Rattle.dsde_values.specs.declared.when.When.TheVariants.{Never}
use Rattle.dsde_sim_tree.specs.given.formalism.System.{System, Ports}
use Rattle.dsde_sim_tree.specs.declared.event.Event.{Event}
use Rattle.dsde_sim_tree.specs.declared.fault.TurnEnd.{TurnEnd}
use Rattle.dsde_sim_tree.specs.declared.fault.TurnEnd.TheVariants.{Memory}
use Rattle.dsde_sim_tree.specs.Told.{Told, Tells, told, quietly, ◌then◌}
use Rattle.dsde_sim_tree.specs.declared.sim.Sim.{Sim}
use Rattle.dsde_sim_tree.specs.Move.{ins_of}
use Rattle.dsde_sim_tree.specs.Output.{by_port}
use Rattle.dsde_sim_tree.specs.Tree.{next_time}
use Rattle.dsde_sim_tree.specs.declared.step.Step.{Step}
use Rattle.dsde_sim_tree.specs.Engine.{Engine}
use Rattle.dsde_sim_tree.specs.Turn.{turn, turn_time, items_at, after_turn, advance_tree, advance}
use Rattle.dsde_sim_movers.specs.Places.{IsInOrder}
use Rattle.dsde_sim_movers.specs.Delivered.{IsDelivered, IsTurnDelivered}
use Rattle.dsde_sim_movers.proofs.Fronts.{told-delivered}

-- The law of one turn.
abbrev pub TurnsAreDelivered : Type 0
TurnsAreDelivered = (system : System) (tree : Sim) (number time : ℕ) (items : List Item) → IsInOrder tree →
    IsDelivered system tree time (by_port (ins_of system tree) items) (turn system tree number time items).events (turn system tree number time items).end

module _ (law : TurnsAreDelivered) (system : System) (engine : Engine) (head : Option Arrival) (old new : List Event) where
  abbrev got : Sim → ℕ → Ports
  got tree time = by_port (ins_of system tree) (items_at head time)

  -- a step that is followed by one that tells nothing
  then-delivered : {A B : Type 0} (tree : Sim) (time : ℕ) (events : List Event) (end : Result A TurnEnd) (next : A → B) → IsDelivered system tree time (got tree time) events end →
      (let step : Told A = record { events = events; end = end } in
      let whole : Told B = step then (λ value. told [] (next value)) in
      IsDelivered system tree time (got tree time) whole.events whole.end)
  then-delivered tree time events (Ok value) next delivered =
      subst (λ (list : List Event). IsDelivered system tree time (got tree time) list (Ok (next value))) (sym (append-nil events))
      (record { places = delivered.places; calm = delivered.calm; received = delivered.received })
  then-delivered tree time events (Err end) next delivered = record { places = delivered.places; calm = delivered.calm; received = delivered.received }

  -- what is told of a tree's turn at a time
  at-time : (tree : Sim) (time : ℕ) (result : Result (Step × Engine) TurnEnd) → IsInOrder tree → Tells (advance_tree system engine tree head (Some time)) old new result →
      IsDelivered system tree time (got tree time) (drop (length old) new) result
  at-time tree time result order tells =
      let step = turn system tree (engine.turn + 1) time (items_at head time) in
      told-delivered system tree time (got tree time) (Step × Engine) (step then after_turn engine head time) old new result tells
      (then-delivered tree time step.events step.end _ (law system tree (engine.turn + 1) time (items_at head time) order))

  abbrev Delivers : Sim → Option ℕ → Result Step TurnEnd → Type 0
  Delivers tree next end = IfSome next (λ time. IsDelivered system tree time (got tree time) (drop (length old) new) end)

  ok-tree : (tree : Sim) (next : Option ℕ) (step : Step) (after : Engine) → IsInOrder tree → Tells (advance_tree system engine tree head next) old new (Ok (step, after)) → Delivers tree next (Ok step)
  ok-tree tree None step after order tells = tt
  ok-tree tree (Some time) step after order tells =
      let delivered = at-time tree time (Ok (step, after)) order tells in record { places = delivered.places; calm = delivered.calm; received = delivered.received }

  err-tree : (tree : Sim) (next : Option ℕ) (end : TurnEnd) → IsInOrder tree → Tells (advance_tree system engine tree head next) old new (Err end) → Delivers tree next (Err end)
  err-tree tree None end order tells = tt
  err-tree tree (Some time) end order tells =
      let delivered = at-time tree time (Err end) order tells in record { places = delivered.places; calm = delivered.calm; received = delivered.received }

  -- the same of an engine that may have no tree
  abbrev next_in : Option Sim → Option ℕ
  next_in own = turn_time (elim own [ Some tree ↦ next_time tree | None ↦ Never ]) head

  abbrev advance_in : Option Sim → Option ℕ → Told (Step × Engine)
  advance_in own next = elim own [ Some tree ↦ advance_tree system engine tree head next | None ↦ quietly (Err Memory) ]

  abbrev DeliversIn : Option Sim → Result Step TurnEnd → Type 0
  DeliversIn own end = IfSome own (λ tree. Delivers tree (next_in own) end)

  ok-in : (own : Option Sim) (step : Step) (after : Engine) → IfSome own IsInOrder → Tells (advance_in own (next_in own)) old new (Ok (step, after)) → DeliversIn own (Ok step)
  ok-in (Some tree) step after order tells = ok-tree tree (turn_time (next_time tree) head) step after order tells
  ok-in None step after order tells = tt

  err-in : (own : Option Sim) (end : TurnEnd) → IfSome own IsInOrder → Tells (advance_in own (next_in own)) old new (Err end) → DeliversIn own (Err end)
  err-in (Some tree) end order tells = err-tree tree (turn_time (next_time tree) head) end order tells
  err-in None end order tells = tt

  pub advance-delivered : (after : Engine) (result : Result Step TurnEnd) → IfSome engine.tree IsInOrder →
      IfOk result (λ step. Tells (advance system engine head) old new (Ok (step, after))) → IfErr result (λ end. Tells (advance system engine head) old new (Err end)) →
      IsTurnDelivered system engine head (drop (length old) new) result
  advance-delivered after (Ok step) order ok err = ok-in engine.tree step after order ok
  advance-delivered after (Err end) order ok err = err-in engine.tree end order err
