-- The start of an engine and its turns.
use Rattle.std.proofs.Common.{◌≡◌, ℕ, ◌+◌, ◌-◌, ◌==◌, Bool, true, false, List, [], length, Option, Some, None, Err, slice_get, refl, sym, ap, subst, ◌∙◌, arith}
use Rattle.std.specs.Prelude.{IfSome, if◌then◌else◌}
use Rattle.dsde_syntax.specs.declared.decl.Model.{Model}
use Rattle.dsde_values.specs.declared.arrival.Arrival.{Arrival}
use Rattle.dsde_values.specs.declared.arrival.Item.{Item}
use Rattle.dsde_values.specs.declared.types.Field.{Field}
use Rattle.dsde_values.specs.declared.value.Value.{Value}
use Rattle.dsde_values.specs.declared.when.When.{When}
use Rattle.dsde_values.specs.declared.when.When.TheVariants.{Never}
use Rattle.dsde_values.specs.Path.{root}
use Rattle.dsde_values.specs.When.{IsMoment}
use Rattle.dsde_language.specs.declared.ids.ModelId.{ModelId}
use Rattle.dsde_language.specs.DeclaredModels.{top_number, types_of, owns_of}
use Rattle.dsde_formalism.specs.System.{Ports}
use Rattle.dsde_sim_starting.specs.given.system.Program.{system}
use Rattle.dsde_sim_starting.specs.given.system.Fitting.{FitsArgs, IsInTime, Reach}
use Rattle.dsde_sim_starting.specs.given.system.Plans.{ways}
use Rattle.dsde_sim_tree.specs.declared.fault.TurnEnd.TheVariants.{Memory}
use Rattle.dsde_sim_tree.specs.Told.{Told, at, told, quietly, ◌then◌}
use Rattle.dsde_sim_tree.specs.declared.sim.Sim.{Sim}
use Rattle.dsde_sim_tree.specs.declared.sim.TheConstants.{DEEPEST}
use Rattle.dsde_sim_tree.specs.Output.{by_port, output}
use Rattle.dsde_sim_tree.specs.Move.{ins_of, move}
use Rattle.dsde_sim_tree.specs.Start as tree
use Rattle.dsde_sim_tree.specs.Tree.{args_of, model_of, next_time, parts}
use Rattle.dsde_sim_tree.specs.declared.step.Step.{Step}
use Rattle.dsde_sim_tree.specs.declared.step.TheConstants.{MOST_PARTS}
use Rattle.dsde_sim_tree.specs.Engine.{Engine, begun, next_of}
use Rattle.dsde_sim_tree.specs.Turn.{advance, advance_tree, after_turn, items_at, move_phase, start, started_tree, turn, turn_time, without_room}
use Rattle.dsde_sim_starting.specs.given.sound_structures.Sure.{FitsChosen}
use Rattle.dsde_sound_runs.specs.Ends.{Arrives, ComeBy}
use Rattle.dsde_sound_runs.proofs.Relied.{Laws}
use Rattle.dsde_sound_runs.proofs.Safe.{Safe, safe-at, safe-then}
use Rattle.dsde_sim_starting.specs.Fitting.{FitsSent, FitsTree}
use Rattle.dsde_sound_runs.proofs.Ports.{Receives}
use Rattle.dsde_sim_starting.specs.lemmas.Stood.{Stood, same-own, stood}
use Rattle.dsde_sound_runs.proofs.Starting.{IsPart, part-starts}
use Rattle.dsde_sound_runs.proofs.Sending.{tree-answers}
use Rattle.dsde_sound_runs.proofs.Moving.{tree-moves}
use Rattle.dsde_sound_runs.proofs.Times.{tree-in-time, turn-in-time}

-- An engine has a tree that fits, of the model that runs.
pub record Stands (model : Model) (engine : Engine) : Type 0 where
  pub tree : Sim
  pub is : engine.tree ≡ Some tree
  pub fits : FitsTree model tree
  pub root : model_of tree ≡ top_number model

abbrev pub Behind : Model → Step × Engine → Type 0
Behind model answer = Stands model answer.1

module _ (model : Model) (laws : Laws model) where
  tree-starts : (number : ModelId) (args : List Value) → FitsArgs model number.0 args → Safe (IsPart model number args) (started_tree (system model) number args).end
  tree-starts number args fits =
      safe-then (λ one. IsPart model number args one.0) (IsPart model number args) (tree.start (system model) DEEPEST number args root 0 MOST_PARTS) without_room
      (part-starts model laws 0 (omega arith) DEEPEST number args root MOST_PARTS fits) (λ one part. part)

  -- the engine starts, or faults
  pub engine-starts : Safe (Stands model) (start (system model)).end
  engine-starts =
      safe-then (FitsChosen model) (Stands model) (quietly (at root (system model).top)) (λ chosen. started_tree (system model) chosen.model chosen.args then (λ own. told [] (begun own)))
      (safe-at (FitsChosen model) root (system model).top laws.top)
      (λ chosen fits.
      safe-then (IsPart model chosen.model chosen.args) (Stands model) (started_tree (system model) chosen.model chosen.args) (λ own. told [] (begun own))
      (tree-starts chosen.model chosen.args fits.args)
      (λ own part. record { tree = own; is = refl; fits = part.fits; root = part.model_is ∙ fits.is }))

  module _ (own : Sim) (fits : FitsTree model own) (number time : ℕ) (moment : IsMoment time) where
    -- what comes to the root
    pub root-got : (items : List Item) → ComeBy model (model_of own).0 items → Receives model (model_of own).0 (by_port (ins_of (system model) own) items)
    root-got items come =
        let one : Stood model own = stood model own fits in
        let same = same-own (slice_get (owns_of model.decls) (model_of own).0) one.stands come.own one.found come.found in
        let ins : List Field = ways model come.own false in
        let count : length ins ≡ ins_of (system model) own = sym (one.ins ∙ ap (λ o. length (ways model o false)) same) in
        record {
          own = come.own;
          found = come.found;
          reach = subst (λ (n : ℕ). Reach (types_of model) ins (by_port n items)) count (laws.sent (types_of model) ins items come.come);
        }

    abbrev Turned : Sim → Type 0
    Turned = IsPart model (model_of own) (args_of own)

    turn-safe : (items : List Item) → ComeBy model (model_of own).0 items → Safe Turned (turn (system model) own number time items).end
    turn-safe items come =
        let got : Ports = by_port (ins_of (system model) own) items in
        safe-then (FitsSent model (model_of own).0) Turned (quietly (output (system model) own root time)) (move_phase (system model) own time got)
        (tree-answers model laws time own root fits)
        (λ sent sends.
        safe-then (λ after. IsPart model (model_of own) (args_of own) after.0) Turned (move (system model) own root time got (MOST_PARTS - parts own)) without_room
        (tree-moves model laws time moment own root got (MOST_PARTS - parts own) fits (root-got items come)) (λ after part. part))

  none-come : (own : Sim) → FitsTree model own → ComeBy model (model_of own).0 []
  none-come own fits = let one : Stood model own = stood model own fits in record { own = one.stands; found = one.found; come = tt }

  -- the items of a head that may be taken
  pub items-come : (own : Sim) → FitsTree model own → model_of own ≡ top_number model → (head : Option Arrival) (time : ℕ) → IfSome head (Arrives model) → ComeBy model (model_of own).0 (items_at head time)
  items-come own fits root_is None time arrive = none-come own fits
  items-come own fits root_is (Some head) time arrive = by-test (head.time == time)
    where
      by-test : (taken : Bool) → ComeBy model (model_of own).0 (if taken then head.items else [])
      by-test true = subst (λ (number : ModelId). ComeBy model number.0 head.items) (sym root_is) arrive.items
      by-test false = none-come own fits

  module _ (engine : Engine) (own : Sim) (is : engine.tree ≡ Some own) (fits : FitsTree model own) (root_is : model_of own ≡ (top_number model)) (head : Option Arrival) (arrive : IfSome head (Arrives model)) where
    tree-advances : (at : Option ℕ) → IfSome at IsMoment → Safe (Behind model) (advance_tree (system model) engine own head at).end
    tree-advances None moment = record { tree = own; is = is; fits = fits; root = root_is }
    tree-advances (Some time) moment =
        safe-then (IsPart model (model_of own) (args_of own)) (Behind model) (turn (system model) own (engine.turn + 1) time (items_at head time)) (after_turn engine head time)
        (turn-safe own fits (engine.turn + 1) time moment (items_at head time) (items-come own fits root_is head time arrive))
        (λ after part. record { tree = after; is = refl; fits = part.fits; root = part.model_is ∙ root_is })

    early : (some : Option Arrival) → IfSome some (Arrives model) → IfSome some (λ own. IsMoment own.time)
    early None arrives = tt
    early (Some one) arrives = arrives.early

    next-in-time : IsInTime (next_of engine)
    next-in-time =
        subst (λ (found : Option Sim). IsInTime (let next : When = elim found [ Some tree ↦ next_time tree | None ↦ Never ] in next)) (sym is) (tree-in-time model own fits)

    -- the next turn is at a moment of a run
    pub turn-moment : IfSome (turn_time (next_of engine) head) IsMoment
    turn-moment = turn-in-time (next_of engine) head next-in-time (early head arrive)

    found-advances : Safe (Behind model) (advance (system model) engine head).end
    found-advances =
        subst
        (λ (found : Option Sim). Safe (Behind model) (let step : Told (Step × Engine) = elim found [
          | Some own ↦ advance_tree (system model) engine own head (turn_time (next_of engine) head)
          | None ↦ quietly (Err Memory)
        ] in step.end))
        (sym is) (tree-advances (turn_time (next_of engine) head) turn-moment)

  -- the engine takes a turn, or faults
  pub engine-advances : (engine : Engine) → Stands model engine → (head : Option Arrival) → IfSome head (Arrives model) → Safe (Behind model) (advance (system model) engine head).end
  engine-advances engine stands head arrive = found-advances engine stands.tree stands.is stands.fits stands.root head arrive
