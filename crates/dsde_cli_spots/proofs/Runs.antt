-- A fault in which a run ends is told at a token.
use Rattle.std.proofs.Common.{◌≡◌, ℕ, zero, suc, ◌+◌, ◌-◌, Bool, List, [], Option, Some, None, length, Result, Ok, Err, unwrap_or, refl, subst}
use Rattle.std.specs.Prelude.{if◌then◌else◌}
use Rattle.dsde_syntax.specs.Grammar.{tokens_of}
use Rattle.dsde_values.specs.declared.arrival.Arrival.{Arrival}
use Rattle.dsde_values.specs.declared.arrival.Item.{Item}
use Rattle.dsde_values.specs.Path.{root}
use Rattle.dsde_input_records.specs.declared.end.InputEnd.{InputEnd}
use Rattle.dsde_input_records.specs.declared.end.InputEnd.TheVariants as input_end
use Rattle.dsde_input_records.specs.Records.{Records, end, bad, one}
use Rattle.dsde_faults.specs.declared.end.LeafEnd.{LeafEnd}
use Rattle.dsde_faults.specs.declared.end.LeafEnd.TheVariants as leaf_end
use Rattle.dsde_formalism.specs.System.{Chosen, Ports, System}
use Rattle.dsde_system.specs.Program.{system}
use Rattle.dsde_sim_tree.specs.declared.event.Event.{Event}
use Rattle.dsde_sim_tree.specs.declared.event.Finish.{Finish}
use Rattle.dsde_sim_tree.specs.declared.event.Finish.TheVariants as how
use Rattle.dsde_sim_tree.specs.declared.fault.TurnEnd.{TurnEnd}
use Rattle.dsde_sim_tree.specs.declared.fault.TurnEnd.TheVariants as turn_end
use Rattle.dsde_sim_tree.specs.Told.{Told, at, told, quietly, ◌then◌}
use Rattle.dsde_sim_tree.specs.declared.sim.Sim.{Sim}
use Rattle.dsde_sim_tree.specs.declared.sim.TheConstants.{DEEPEST}
use Rattle.dsde_sim_tree.specs.Move.{ins_of, move}
use Rattle.dsde_sim_tree.specs.Output.{by_port, output}
use Rattle.dsde_sim_tree.specs.Start as tree
use Rattle.dsde_sim_tree.specs.Tree.{parts}
use Rattle.dsde_sim_tree.specs.declared.step.Step.{Step}
use Rattle.dsde_sim_tree.specs.declared.step.Step.TheVariants.{Turned, Quiet}
use Rattle.dsde_sim_tree.specs.declared.step.TheConstants.{MOST_PARTS}
use Rattle.dsde_sim_tree.specs.Engine.{Engine, begun, next_of}
use Rattle.dsde_sim_tree.specs.Turn.{advance, advance_tree, after_turn, items_at, move_phase, started_tree, turn, turn_time, without_room}
use Rattle.dsde_run_meaning.specs.Run.{Run, Spots, ended, faulted, go, offended, preceded, turn_on, unstarted}
use Rattle.dsde_cli_spots.specs.Placed.{Ends, IsLeafBelow, IsSystemBelow, SystemsAreBelow, TopsAreBelow}
use Rattle.dsde_cli_spots.specs.SpottedRuns.{FaultsAreAtTokens, IsAtToken}
use Rattle.dsde_cli_spots.proofs.Steps.{IsTurnBelow, then-ends}
use Rattle.dsde_cli_spots.proofs.Parts.{part-starts, part-answers, part-moves}

-- an end of a run, if it is a fault, is told at a token
abbrev EndsAtToken : ℕ → Spots → Option Finish → Type 0
EndsAtToken n spots None = Unit {0}
EndsAtToken n spots (Some how.Bound) = Unit {0}
EndsAtToken n spots (Some how.Quiet) = Unit {0}
EndsAtToken n spots (Some (how.Input kind line)) = Unit {0}
EndsAtToken n spots (Some (how.Fault fault)) = IsAtToken n spots fault

faulted-below : (n : ℕ) (spots : Spots) (why : TurnEnd) (number moment : ℕ) (engine : Engine) → IsTurnBelow n why → EndsAtToken n spots (faulted spots why number moment engine).end
faulted-below n spots (turn_end.Fault path site kind place) number moment engine below = record { at = place; token = below; place = refl }
faulted-below n spots turn_end.Memory number moment engine below = tt

offended-below : (n : ℕ) (spots : Spots) (offence : InputEnd) (engine : Engine) → EndsAtToken n spots (offended offence engine).end
offended-below n spots (input_end.BadLine line) engine = tt
offended-below n spots (input_end.Backwards line) engine = tt
offended-below n spots (input_end.LineTooLong line) engine = tt
offended-below n spots input_end.ReadFault engine = tt
offended-below n spots input_end.Memory engine = tt

module _ (n : ℕ) (own : System) (near : IsSystemBelow n own) (spots : Spots) where
  abbrev T : TurnEnd → Type 0
  T = IsTurnBelow n

  abbrev R : Run → Type 0
  R its = EndsAtToken n spots its.end

  turns : (tree : Sim) (number time : ℕ) (items : List Item) → Ends T (turn own tree number time items).end
  turns tree number time items =
      let got : Ports = by_port (ins_of own tree) items in
      then-ends T (quietly (output own tree root time)) (move_phase own tree time got) (part-answers n own near tree root time) (λ sent.
      then-ends T (move own tree root time got (MOST_PARTS - parts tree)) without_room (part-moves n own near tree root time got (MOST_PARTS - parts tree)) (λ after. tt))

  tree-advances : (engine : Engine) (tree : Sim) (head : Option Arrival) (moment : Option ℕ) → Ends T (advance_tree own engine tree head moment).end
  tree-advances engine tree head None = tt
  tree-advances engine tree head (Some time) =
      then-ends T (turn own tree (engine.turn + 1) time (items_at head time)) (after_turn engine head time) (turns tree (engine.turn + 1) time (items_at head time)) (λ after. tt)

  advances-by : (found : Option Sim) (engine : Engine) (head : Option Arrival)
      → Ends T (let step : Told (Step × Engine) = elim found [
        | Some tree ↦ advance_tree own engine tree head (turn_time (next_of engine) head)
        | None ↦ quietly (Err turn_end.Memory)
      ] in step.end)
  advances-by None engine head = tt
  advances-by (Some tree) engine head = tree-advances engine tree head (turn_time (next_of engine) head)

  by-end : (end : Result (Step × Engine) TurnEnd) (events : List Event) (later : Bool → Engine → Run) (engine : Engine) (number moment : ℕ) → Ends T end → ((took_input : Bool) (after : Engine) → R (later took_input after))
      → R (preceded events (elim end [
        | Ok answer ↦ elim answer.0 [
          | Turned took_input ↦ later took_input answer.1
          | Quiet ↦ ended how.Quiet engine.turn engine.time engine
        ]
        | Err why ↦ faulted spots why number moment engine
      ]))
  by-end (Ok (Turned took_input, after)) events later engine number moment below goes = goes took_input after
  by-end (Ok (Quiet, after)) events later engine number moment below goes = tt
  by-end (Err why) events later engine number moment below goes = faulted-below n spots why number moment engine below

  turn-on : (engine : Engine) (head : Option Arrival) (later : Bool → Engine → Run) → ((took_input : Bool) (after : Engine) → R (later took_input after)) → R (turn_on own spots engine head later)
  turn-on engine head later goes =
      by-end (advance own engine head).end (advance own engine head).events later engine (engine.turn + 1) (unwrap_or (turn_time (next_of engine) head) engine.time) (advances-by engine.tree engine head) goes

  goes-on : (number : ℕ) (records : Records) (engine : Engine) → R (go own spots number records engine)
  goes-on zero records engine = tt
  goes-on (suc number) (bad offence) engine = offended-below n spots offence engine
  goes-on (suc number) end engine = turn-on engine None (λ took_input after. go own spots number end after) (λ took_input after. goes-on number end after)
  goes-on (suc number) (one head later) engine =
      turn-on engine (Some head) (λ took_input after. go own spots number (if took_input then later else one head later) after)
      (λ took_input after. goes-on number (if took_input then later else one head later) after)

  -- what runs starts
  starts-below : (chosen : Chosen) → Ends T (started_tree own chosen.model chosen.args).end
  starts-below chosen =
      then-ends T (tree.start own DEEPEST chosen.model chosen.args root 0 MOST_PARTS) without_room (part-starts n own near DEEPEST chosen.model chosen.args root 0 MOST_PARTS) (λ one. tt)

  by-start : (end : Result Engine TurnEnd) (events : List Event) (number : ℕ) (records : Records) → Ends T end
      → R (preceded events (elim end [ Ok engine ↦ go own spots number records engine | Err why ↦ faulted spots why 0 0 unstarted ]))
  by-start (Ok engine) events number records below = goes-on number records engine
  by-start (Err why) events number records below = faulted-below n spots why 0 0 unstarted below

-- a run by what its system names to run
top-by : (n : ℕ) (own : System) (spots : Spots) (top : Result Chosen LeafEnd) → Ends (IsLeafBelow n) top → ((chosen : Chosen) → top ≡ Ok chosen → IsSystemBelow n own) → (number : ℕ) (records : Records)
    → EndsAtToken n spots (let step : Told Engine = quietly (at root top) then (λ chosen. started_tree own chosen.model chosen.args then (λ tree. told [] (begun tree))) in
    preceded step.events (elim step.end [ Ok engine ↦ go own spots number records engine | Err why ↦ faulted spots why 0 0 unstarted ])).end
top-by n own spots (Ok chosen) below near number records =
    let step : Told Engine = started_tree own chosen.model chosen.args then (λ tree. told [] (begun tree)) in
    by-start n own (near chosen refl) spots step.end step.events number records
    (then-ends (IsTurnBelow n) (started_tree own chosen.model chosen.args) (λ tree. told [] (begun tree)) (starts-below n own (near chosen refl) spots chosen) (λ tree. tt))
top-by n own spots (Err (leaf_end.Fault site kind place)) below near number records = record { at = place; token = below; place = refl }
top-by n own spots (Err leaf_end.Memory) below near number records = tt

pub faults-are-at-tokens : TopsAreBelow → SystemsAreBelow → FaultsAreAtTokens
faults-are-at-tokens tops systems model spots records turns fault shaped is =
    subst (EndsAtToken (length (tokens_of model)) spots) is
    (top-by (length (tokens_of model)) (system model) spots (system model).top (tops model shaped) (λ chosen top. systems model chosen shaped top) turns records)
