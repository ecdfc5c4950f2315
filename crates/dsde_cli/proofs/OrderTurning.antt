-- The start of an engine that draws, its turns, and its runs.
use Rattle.std.proofs.Common.{◌≡◌, ◌∙◌, ℕ, zero, suc, ◌+◌, ◌-◌, List, [], length, Option, Some, None, Err, refl, sym, ap, subst, arith}
use Rattle.std.specs.Prelude.{IfSome}
use Rattle.std.specs.List.{AllByRecursion}
use Rattle.rand_pcg.specs.Lcg.{Lcg}
use Rattle.rand_pcg.specs.Pcg.{pcg32}
use Rattle.dsde_syntax.specs.declared.decl.Model.{Model}
use Rattle.dsde_values.specs.declared.arrival.Arrival.{Arrival}
use Rattle.dsde_values.specs.declared.arrival.Item.{Item}
use Rattle.dsde_values.specs.Path.{root}
use Rattle.dsde_values.specs.When.{IsMoment}
use Rattle.dsde_language.specs.DeclaredModels.{top_number}
use Rattle.dsde_formalism.specs.System.{Ports}
use Rattle.dsde_input_records.specs.Records.{Records}
use Rattle.dsde_sound_runs.specs.given.system.Program.{system}
use Rattle.dsde_sim_tree.specs.declared.fault.TurnEnd.TheVariants.{Memory}
use Rattle.dsde_sim_tree.specs.Told.{Told, told, quietly}
use Rattle.dsde_sim_tree.specs.declared.sim.Sim.{Sim}
use Rattle.dsde_sim_tree.specs.Output.{by_port, output}
use Rattle.dsde_sim_tree.specs.Move.{ins_of}
use Rattle.dsde_sim_tree.specs.Tree.{args_of, model_of, parts}
use Rattle.dsde_sim_tree.specs.declared.step.Step.{Step}
use Rattle.dsde_sim_tree.specs.declared.step.TheConstants.{MOST_PARTS}
use Rattle.dsde_sim_tree.specs.Engine.{Engine, next_of}
use Rattle.dsde_sim_tree.specs.Turn as turns
use Rattle.dsde_sim_tree.specs.Turn.{items_at, turn_time, without_room}
use Rattle.dsde_sound_runs.specs.given.sim_starting.Fitting.{FitsSent, FitsTree}
use Rattle.dsde_sim_movers.specs.Deliveries.{Delivery}
use Rattle.dsde_sim_movers.specs.Movers.{move_each}
use Rattle.dsde_sim_movers.specs.Turns.{free_phase, turn_movers}
use Rattle.dsde_sim_movers.specs.Orders.{IsLawful, IsOrderOf}
use Rattle.dsde_drawing.specs.Words.{next_words, seeded}
use Rattle.dsde_run_free.specs.given.order.Free.{Drawing, advance, advance_tree, after_turn, drawn_movers, drawn_turn, moves_of, start}
use Rattle.dsde_sound_runs.specs.given.run_meaning.Run.{Spots, run_by}
use Rattle.dsde_sound_runs.specs.Ends.{AllArrive, Arrives, ComeBy, HasEnd}
use Rattle.dsde_sound_runs.proofs.Relied.{Laws}
use Rattle.dsde_sound_runs.proofs.Running.{all-end}
use Rattle.dsde_sound_runs.proofs.Safe.{Safe, safe-then}
use Rattle.dsde_sound_runs.proofs.Sending.{tree-answers}
use Rattle.dsde_sound_runs.proofs.Starting.{IsPart}
use Rattle.dsde_sound_runs.proofs.Turning.{Stands, engine-starts, items-come, root-got, turn-moment}
use Rattle.dsde_cli.proofs.LawComing.{Serves, tree-comes, tree-named}
use Rattle.dsde_cli.proofs.Relied.{Turns}
use Rattle.dsde_cli.proofs.Seated.{are-served, each-moves, safe-at-end}

-- The engine has a tree that fits, of the model that runs.
abbrev pub StandsDrawn : Model → Drawing → Type 0
StandsDrawn model own = Stands model own.engine

abbrev pub BehindDrawn : Model → Step × Drawing → Type 0
BehindDrawn model answer = StandsDrawn model answer.1

next-words : (count : ℕ) (generator : Lcg) → length (next_words count generator) ≡ count
next-words zero generator = refl
next-words (suc count) generator = ap suc (next-words count (pcg32 generator).1)

module _ (model : Model) (laws : Laws model) (all : Turns) where
  -- the engine starts, or faults
  pub drawn-starts : (seed : ℕ) → Safe (StandsDrawn model) (start (system model) seed).end
  drawn-starts seed =
      safe-then (Stands model) (StandsDrawn model) (turns.start (system model)) (λ engine. told [] (record { engine = engine; generator = seeded seed }))
      (engine-starts model laws) (λ engine stands. stands)

  module _ (tree : Sim) (fits : FitsTree model tree) (number time : ℕ) (moment : IsMoment time) where
    -- a drawn order of those that move is lawful
    drawn-lawful : (items : List Item) (generator : Lcg) →
        IsOrderOf (turn_movers (system model) tree time items) (drawn_movers (system model) tree time items generator) × IsLawful root (drawn_movers (system model) tree time items generator)
    drawn-lawful items generator =
        let count = moves_of (system model) tree time items in
        let counted = next-words count generator in
        (all.orders root (turn_movers (system model) tree time items) (drawn_movers (system model) tree time items generator)).1
        (all.draws (system model) tree time items (next_words count generator) (tree-named model tree fits) (omega (arith, counted)))

    abbrev Turned : Sim → Type 0
    Turned = IsPart model (model_of tree) (args_of tree)

    turn-safe : (items : List Item) (generator : Lcg) → ComeBy model (model_of tree).0 items → Safe Turned (drawn_turn (system model) tree number time items generator).end
    turn-safe items generator come =
        let got : Ports = by_port (ins_of (system model) tree) items in
        let order : List Delivery = drawn_movers (system model) tree time items generator in
        let room : ℕ = MOST_PARTS - parts tree in
        let lawful = drawn-lawful items generator in
        safe-at-end (FitsSent model (model_of tree).0) Turned (quietly (output (system model) tree root time)) (free_phase (system model) tree time order)
        (tree-answers model laws time tree root fits)
        (λ sent is sends.
        let serve : AllByRecursion (Serves model) (turn_movers (system model) tree time items) =
        tree-comes model laws all time moment tree root got sent (tree-named model tree fits) fits (root-got model laws tree fits number time moment items come) is in
        safe-then (λ after. IsPart model (model_of tree) (args_of tree) after.0) Turned (move_each (system model) root time order tree room) without_room
        (each-moves model laws time moment order tree tree room (record { fits = fits; model_is = refl; args_is = refl }) (are-served model all time tree fits items order lawful.0 lawful.1 serve room))
        (λ after part. part))

  module _ (own : Drawing) (tree : Sim) (is : own.engine.tree ≡ Some tree) (fits : FitsTree model tree) (root_is : model_of tree ≡ top_number model) (head : Option Arrival) (arrive : IfSome head (Arrives model)) where
    tree-advances : (at : Option ℕ) → IfSome at IsMoment → Safe (BehindDrawn model) (advance_tree (system model) own tree head at).end
    tree-advances None moment = record { tree = tree; is = is; fits = fits; root = root_is }
    tree-advances (Some time) moment =
        safe-then (IsPart model (model_of tree) (args_of tree)) (BehindDrawn model) (drawn_turn (system model) tree (own.engine.turn + 1) time (items_at head time) own.generator) (after_turn (system model) own tree head time)
        (turn-safe tree fits (own.engine.turn + 1) time moment (items_at head time) own.generator (items-come model laws tree fits root_is head time arrive))
        (λ after part. record { tree = after; is = refl; fits = part.fits; root = part.model_is ∙ root_is })

    found-advances : Safe (BehindDrawn model) (advance (system model) own head).end
    found-advances =
        subst
        (λ (found : Option Sim). Safe (BehindDrawn model) (let step : Told (Step × Drawing) = elim found [
          | Some tree ↦ advance_tree (system model) own tree head (turn_time (next_of own.engine) head)
          | None ↦ quietly (Err Memory)
        ] in step.end))
        (sym is) (tree-advances (turn_time (next_of own.engine) head) (turn-moment model laws own.engine tree is fits root_is head arrive))

  -- the engine takes a turn, or faults
  pub drawn-advances : (own : Drawing) → StandsDrawn model own → (head : Option Arrival) → IfSome head (Arrives model) → Safe (BehindDrawn model) (advance (system model) own head).end
  drawn-advances own stands head arrive = found-advances own stands.tree stands.is stands.fits stands.root head arrive

-- the engine beside a generator
abbrev engine_in : Drawing → Engine
engine_in own = own.engine

pub drawn-runs-end : (model : Model) → Laws model → Turns → (spots : Spots) (seed : ℕ) (records : Records) (turns : ℕ) → AllArrive model records → HasEnd (run_by engine_in (advance (system model)) (start (system model) seed) spots records turns)
drawn-runs-end model laws all spots seed records turns arrive =
    all-end model spots Drawing engine_in (advance (system model)) (StandsDrawn model) (drawn-advances model laws all) (start (system model) seed) (drawn-starts model laws all seed) records turns arrive
