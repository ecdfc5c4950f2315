-- Start and turns of an engine keep the names of its tree's components in order.
use Rattle.std.proofs.Common.{◌≡◌, ℕ, ◌+◌, List, [], Option, Some, None, IfSome, Ok, Err, sym, ◌∙◌, ap, subst}
use Rattle.dsde_values.specs.declared.arrival.Arrival.{Arrival}
use Rattle.dsde_values.specs.declared.arrival.Item.{Item}
use Rattle.dsde_values.specs.declared.path.Path.{Path}
use Rattle.dsde_values.specs.declared.value.Value.{Value}
use Rattle.dsde_values.specs.Path.{root}
use Rattle.dsde_language.specs.declared.ids.ModelId.{ModelId}
use Rattle.dsde_formalism.specs.System.{Chosen, System}
use Rattle.dsde_sim_tree.specs.declared.fault.TurnEnd.TheVariants.{Memory}
use Rattle.dsde_sim_tree.specs.Told.{Told, told, quietly, at, ◌then◌}
use Rattle.dsde_sim_tree.specs.declared.sim.Sim.{Sim}
use Rattle.dsde_sim_tree.specs.declared.sim.TheConstants.{DEEPEST}
use Rattle.dsde_sim_tree.specs.Start as tree
use Rattle.dsde_sim_tree.specs.declared.step.Step.{Step}
use Rattle.dsde_sim_tree.specs.declared.step.Step.TheVariants.{Turned, Quiet}
use Rattle.dsde_sim_tree.specs.declared.step.TheConstants.{MOST_PARTS}
use Rattle.dsde_sim_tree.specs.Engine.{Engine, begun, next_of, turned}
use Rattle.dsde_sim_tree.specs.Turn.{advance, advance_tree, after_turn, is_taken, items_at, start, started_tree, turn, turn_time, without_room}
use Rattle.dsde_sim_movers.specs.Deliveries.{Delivery}
use Rattle.dsde_sim_movers.specs.Names.{IsNamed, NamesParts}
use Rattle.dsde_sim_movers.specs.Turns.{free_turn, turn_movers}
use Rattle.dsde_sim_movers.specs.lemmas.Steps.{same-ok, never-ok, split-then}

abbrev pub StartsNamed : Type 0
StartsNamed = (system : System) (left : ℕ) (model : ModelId) (args : List Value) (path : Path) (time room rest : ℕ) (own : Sim) → NamesParts system →
    (tree.start system left model args path time room).end ≡ Ok (own, rest) → IsNamed own

abbrev pub TurnsNamed : Type 0
TurnsNamed = (system : System) (own after : Sim) (number time : ℕ) (items : List Item) (order : List Delivery) → NamesParts system → IsNamed own →
    (free_turn system own number time items order).end ≡ Ok after → IsNamed after

abbrev pub ByMovers : Type 0
ByMovers = (system : System) (own : Sim) (number time : ℕ) (items : List Item) → IsNamed own →
    turn system own number time items ≡ free_turn system own number time items (turn_movers system own time items)

-- the next turn of what may be an engine's tree
abbrev pub advance_in : System → Engine → Option Arrival → Option Sim → Option ℕ → Told (Step × Engine)
advance_in system engine head own next = elim own [ Some one ↦ advance_tree system engine one head next | None ↦ quietly (Err Memory) ]

module _ (starts : StartsNamed) (turns : TurnsNamed) (movers : ByMovers) (system : System) (names : NamesParts system) where
  pub begin-named : (engine : Engine) → (start system).end ≡ Ok engine → IfSome engine.tree IsNamed
  begin-named engine is =
      let begins : Chosen → Told Engine = λ chosen. started_tree system chosen.model chosen.args then (λ own. told [] (begun own)) in
      let top = split-then [] (at root system.top) begins engine is in
      let own = started_tree system top.0.model top.0.args in
      let begin = split-then own.events own.end (λ one. told [] (begun one)) engine top.2 in
      let step = tree.start system DEEPEST top.0.model top.0.args root 0 MOST_PARTS in
      let first = split-then step.events step.end without_room begin.0 begin.1 in
      let named : IsNamed first.0.0 = starts system DEEPEST top.0.model top.0.args root 0 MOST_PARTS first.0.1 first.0.0 names first.1 in
      subst (λ (one : Engine). IfSome one.tree IsNamed) (same-ok (begun begin.0) engine begin.2) (subst IsNamed (same-ok first.0.0 begin.0 first.2) named)

  turn-named : (own : Sim) (number time : ℕ) (items : List Item) (after : Sim) → IsNamed own → (turn system own number time items).end ≡ Ok after → IsNamed after
  turn-named own number time items after named is =
      turns system own after number time items (turn_movers system own time items) names named (ap (λ (step : Told Sim). step.end) (sym (movers system own number time items named)) ∙ is)

  named-by : (engine : Engine) (head : Option Arrival) (step : Step) (after : Engine) → IfSome engine.tree IsNamed → (own : Option Sim) → IfSome own IsNamed → (next : Option ℕ) →
      (advance_in system engine head own next).end ≡ Ok (step, after) → IfSome after.tree IsNamed
  named-by engine head step after named (Some one) own None is = subst (λ (e : Engine). IfSome e.tree IsNamed) (ap (λ (answer : Step × Engine). answer.1) (same-ok (Quiet, engine) (step, after) is)) named
  named-by engine head step after named (Some one) own (Some time) is =
      let first = turn system one (engine.turn + 1) time (items_at head time) in
      let done = split-then first.events first.end (after_turn engine head time) (step, after) is in
      let same = same-ok (Turned (is_taken head time), turned engine done.0 time (is_taken head time)) (step, after) done.2 in
      subst (λ (e : Engine). IfSome e.tree IsNamed) (ap (λ (answer : Step × Engine). answer.1) same) (turn-named one (engine.turn + 1) time (items_at head time) done.0 own done.1)
  named-by engine head step after named None own next is = absurd (never-ok Memory (step, after) is)

  pub advance-named : (engine : Engine) (head : Option Arrival) (step : Step) (after : Engine) → IfSome engine.tree IsNamed → (advance system engine head).end ≡ Ok (step, after) → IfSome after.tree IsNamed
  advance-named engine head step after named is = named-by engine head step after named engine.tree named (turn_time (next_of engine) head) is
