-- Start and turns of an engine keep what holds of trees that start, and of trees behind a turn.
use Rattle.std.proofs.Common.{◌≡◌, ℕ, ◌+◌, List, [], Option, Some, None, IfSome, Ok, Err, ap, subst}
use Rattle.dsde_values.specs.declared.arrival.Arrival.{Arrival}
use Rattle.dsde_values.specs.declared.arrival.Item.{Item}
use Rattle.dsde_values.specs.declared.value.Value.{Value}
use Rattle.dsde_values.specs.Path.{root}
use Rattle.dsde_language.specs.declared.ids.ModelId.{ModelId}
use Rattle.dsde_formalism.specs.System.{Chosen, System}
use Rattle.dsde_sim_tree.specs.declared.fault.TurnEnd.TheVariants.{Memory}
use Rattle.dsde_sim_tree.specs.Told.{Told, told, quietly, at, ◌then◌}
use Rattle.dsde_sim_tree.specs.declared.sim.Sim.{Sim}
use Rattle.dsde_sim_tree.specs.declared.sim.TheConstants.{DEEPEST}
use Rattle.dsde_sim_tree.specs.Start as tree
use Rattle.dsde_sim_tree.specs.declared.step.Step.{Step}
use Rattle.dsde_sim_tree.specs.declared.step.Step.TheVariants.{Turned, Quiet}
use Rattle.dsde_sim_tree.specs.declared.step.TheConstants.{MOST_PARTS}
use Rattle.dsde_sim_tree.specs.Engine.{Engine, begun, next_of, turned}
use Rattle.dsde_sim_tree.specs.Turn.{advance, advance_tree, after_turn, is_taken, items_at, start, started_tree, turn, turn_time, without_room}
use Rattle.dsde_sim_movers.specs.lemmas.Steps.{same-ok, never-ok, split-then}

-- the next turn of what may be an engine's tree
abbrev pub advance_in : System → Engine → Option Arrival → Option Sim → Option ℕ → Told (Step × Engine)
advance_in system engine head own next = elim own [ Some one ↦ advance_tree system engine one head next | None ↦ quietly (Err Memory) ]

-- An engine begins with a tree, and nothing is done.
pub record Begins (P : Sim → Type 0) (engine : Engine) : Type 0 where
  pub tree : Sim
  pub is : begun tree ≡ engine
  pub holds : P tree

module _ (system : System) (P : Sim → Type 0)
    (starts : (model : ModelId) (args : List Value) (rest : ℕ) (own : Sim) → (tree.start system DEEPEST model args root 0 MOST_PARTS).end ≡ Ok (own, rest) → P own)
    (turns : (own after : Sim) (number time : ℕ) (items : List Item) → P own → (turn system own number time items).end ≡ Ok after → P after) where
  pub begins : (engine : Engine) → (start system).end ≡ Ok engine → Begins P engine
  begins engine is =
      let begin : Chosen → Told Engine = λ chosen. started_tree system chosen.model chosen.args then (λ own. told [] (begun own)) in
      let top = split-then [] (at root system.top) begin engine is in
      let own = started_tree system top.0.model top.0.args in
      let done = split-then own.events own.end (λ one. told [] (begun one)) engine top.2 in
      let step = tree.start system DEEPEST top.0.model top.0.args root 0 MOST_PARTS in
      let first = split-then step.events step.end without_room done.0 done.1 in
      record {
        tree = done.0;
        is = same-ok (begun done.0) engine done.2;
        holds = subst P (same-ok first.0.0 done.0 first.2) (starts top.0.model top.0.args first.0.1 first.0.0 first.1);
      }

  kept-by : (engine : Engine) (head : Option Arrival) (step : Step) (after : Engine) → IfSome engine.tree P → (own : Option Sim) → IfSome own P → (next : Option ℕ) →
      (advance_in system engine head own next).end ≡ Ok (step, after) → IfSome after.tree P
  kept-by engine head step after here (Some one) own None is = subst (λ (e : Engine). IfSome e.tree P) (ap (λ (answer : Step × Engine). answer.1) (same-ok (Quiet, engine) (step, after) is)) here
  kept-by engine head step after here (Some one) own (Some time) is =
      let first = turn system one (engine.turn + 1) time (items_at head time) in
      let done = split-then first.events first.end (after_turn engine head time) (step, after) is in
      let same = same-ok (Turned (is_taken head time), turned engine done.0 time (is_taken head time)) (step, after) done.2 in
      subst (λ (e : Engine). IfSome e.tree P) (ap (λ (answer : Step × Engine). answer.1) same) (turns one done.0 (engine.turn + 1) time (items_at head time) own done.1)
  kept-by engine head step after here None own next is = absurd (never-ok Memory (step, after) is)

  pub advance-keeps : (engine : Engine) (head : Option Arrival) (step : Step) (after : Engine) → IfSome engine.tree P → (advance system engine head).end ≡ Ok (step, after) → IfSome after.tree P
  advance-keeps engine head step after here is = kept-by engine head step after here engine.tree here (turn_time (next_of engine) head) is
