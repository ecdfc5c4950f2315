-- Each turn of a run is delivered.
use Rattle.std.proofs.Common.{◌≡◌, ℕ, zero, suc, ◌+◌, Bool, List, [], ◌∷◌, Option, Some, None, IfSome, Result, Ok, Err, refl, sym, subst, append-nil, inl, inr}
use Rattle.std.specs.Prelude.{if◌then◌else◌}
use Rattle.std.specs.List.{AllByRecursion}
use Rattle.dsde_values.specs.declared.arrival.Arrival.{Arrival}
use Rattle.dsde_values.specs.declared.arrival.Item.{Item}
use Rattle.dsde_input_records.specs.Records.{Records, end, bad, one}
use Rattle.dsde_formalism.specs.System.{System, Ports}
use Rattle.dsde_sim_tree.specs.declared.event.Event.{Event}
use Rattle.dsde_sim_tree.specs.declared.fault.TurnEnd.{TurnEnd}
use Rattle.dsde_sim_tree.specs.Told.{Told, told, ◌then◌}
use Rattle.dsde_sim_tree.specs.declared.sim.Sim.{Sim}
use Rattle.dsde_sim_tree.specs.Move.{ins_of}
use Rattle.dsde_sim_tree.specs.Output.{by_port}
use Rattle.dsde_sim_tree.specs.Spots.{Spot, spots}
use Rattle.dsde_sim_tree.specs.declared.step.Step.{Step}
use Rattle.dsde_sim_tree.specs.declared.step.Step.TheVariants.{Turned, Quiet}
use Rattle.dsde_sim_tree.specs.Engine.{Engine, next_of}
use Rattle.dsde_sim_tree.specs.Turn.{advance, items_at, start, turn, turn_time}
use Rattle.dsde_sim_movers.specs.Delivered.{IsDelivered}
use Rattle.dsde_sim_movers.specs.Places.{HasOrder, IsInOrder}
use Rattle.dsde_sim_movers.specs.lemmas.Events.{each-weaker}
use Rattle.dsde_sim_movers.specs.Names.{HasNames, IsNamed, NamesParts}
use Rattle.dsde_sim_movers.specs.lemmas.Steps.{made}
use Rattle.dsde_cli.specs.DeliveredTurns.{IsRunTurnDelivered, RunTurn, run_turns, turns_of, turns_on}
use Rattle.dsde_cli.proofs.DeliveryKeeping.{ByMovers, StartsNamed, TurnsNamed, advance-named, advance_in, begin-named}

abbrev pub TurnsAreDelivered : Type 0
TurnsAreDelivered = (system : System) (tree : Sim) (number time : ℕ) (items : List Item) → IsInOrder tree →
    IsDelivered system tree time (by_port (ins_of system tree) items) (turn system tree number time items).events (turn system tree number time items).end

has-order : (spot : Spot) → HasNames spot → HasOrder spot
has-order (inl leaf) is = tt
has-order (inr shape) is = is.order

in-order : (tree : Sim) → IsNamed tree → IsInOrder tree
in-order tree is = each-weaker HasNames HasOrder has-order (spots tree) is

-- a step that is followed by one that tells nothing
then-delivered : {A B : Type 0} (system : System) (tree : Sim) (time : ℕ) (got : Ports) (events : List Event) (came : Result A TurnEnd) (next : A → B) → IsDelivered system tree time got events came →
    (let whole : Told B = made events came then (λ value. told [] (next value)) in IsDelivered system tree time got whole.events whole.end)
then-delivered system tree time got events (Ok value) next delivered =
    subst (λ (list : List Event). IsDelivered system tree time got list (Ok (next value))) (sym (append-nil events))
    (record { places = delivered.places; calm = delivered.calm; received = delivered.received })
then-delivered system tree time got events (Err why) next delivered = record { places = delivered.places; calm = delivered.calm; received = delivered.received }

module _ (law : TurnsAreDelivered) (starts : StartsNamed) (turned : TurnsNamed) (movers : ByMovers) (system : System) (names : NamesParts system) where
  delivered-by : (engine : Engine) (head : Option Arrival) (own : Option Sim) (next : Option ℕ) → IfSome own IsNamed →
      IfSome own (λ tree. IfSome next (λ time.
      IsDelivered system tree time (by_port (ins_of system tree) (items_at head time)) (advance_in system engine head own next).events (advance_in system engine head own next).end))
  delivered-by engine head (Some tree) (Some time) named =
      let step = turn system tree (engine.turn + 1) time (items_at head time) in
      then-delivered system tree time (by_port (ins_of system tree) (items_at head time)) step.events step.end _ (law system tree (engine.turn + 1) time (items_at head time) (in-order tree named))
  delivered-by engine head (Some tree) None named = tt
  delivered-by engine head None next named = tt

  one-delivered : (own : RunTurn) → IfSome own.engine.tree IsNamed → IsRunTurnDelivered system own
  one-delivered own named = delivered-by own.engine own.head own.engine.tree (turn_time (next_of own.engine) own.head) named

  module _ (engine : Engine) (head : Option Arrival) (later : Bool → Engine → List RunTurn) (named : IfSome engine.tree IsNamed)
      (each : (took_input : Bool) (after : Engine) → IfSome after.tree IsNamed → AllByRecursion (IsRunTurnDelivered system) (later took_input after)) where
    abbrev this : RunTurn
    this = record { engine = engine; head = head }

    on-step : (own : Step) (after : Engine) → (advance system engine head).end ≡ Ok (own, after) → AllByRecursion (IsRunTurnDelivered system) (elim own [ Turned took_input ↦ this ∷ later took_input after | Quiet ↦ [] ])
    on-step (Turned took_input) after is =
        (one-delivered this named, each took_input after (advance-named starts turned movers system names engine head (Turned took_input) after named is))
    on-step Quiet after is = tt

    abbrev turns_at : Result (Step × Engine) TurnEnd → List RunTurn
    turns_at came = elim came [
      | Ok answer ↦ elim answer.0 [ Turned took_input ↦ this ∷ later took_input answer.1 | Quiet ↦ [] ]
      | Err why ↦ this ∷ []
    ]

    on-by : (came : Result (Step × Engine) TurnEnd) → (advance system engine head).end ≡ came → AllByRecursion (IsRunTurnDelivered system) (turns_at came)
    on-by (Ok answer) is = on-step answer.0 answer.1 is
    on-by (Err why) is = (one-delivered this named, tt)

    on-delivered : AllByRecursion (IsRunTurnDelivered system) (turns_on system engine head later)
    on-delivered = on-by (advance system engine head).end refl

  go-delivered : (turns : ℕ) (records : Records) (engine : Engine) → IfSome engine.tree IsNamed → AllByRecursion (IsRunTurnDelivered system) (turns_of system turns records engine)
  go-delivered zero records engine named = tt
  go-delivered (suc turns) (bad offence) engine named = tt
  go-delivered (suc turns) end engine named =
      on-delivered engine None (λ took_input after. turns_of system turns end after) named (λ took_input after kept. go-delivered turns end after kept)
  go-delivered (suc turns) (one head later) engine named =
      on-delivered engine (Some head) (λ took_input after. turns_of system turns (if took_input then later else one head later) after) named
      (λ took_input after kept. go-delivered turns (if took_input then later else one head later) after kept)

  run-by : (records : Records) (turns : ℕ) (came : Result Engine TurnEnd) → (start system).end ≡ came →
      (let own : List RunTurn = elim came [ Ok engine ↦ turns_of system turns records engine | Err why ↦ [] ] in AllByRecursion (IsRunTurnDelivered system) own)
  run-by records turns (Ok engine) is = go-delivered turns records engine (begin-named starts turned movers system names engine is)
  run-by records turns (Err why) is = tt

  pub run-delivered : (records : Records) (turns : ℕ) → AllByRecursion (IsRunTurnDelivered system) (run_turns system records turns)
  run-delivered records turns = run-by records turns (start system).end refl
