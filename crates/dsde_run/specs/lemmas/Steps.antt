-- What a step of an engine leaves, from the phases of its turn: for a turn in any order.
use Rattle.std.proofs.Common.{◌≡◌, ℕ, ◌+◌, ◌≤◌, ◌==◌, true, Result, Ok, Err, [], refl, sym, ap, subst, ◌∙◌, arith}
use Rattle.std.specs.Prelude.{Option, Some, None, min}
use Rattle.std.proofs.lemmas.Bool.Decides.{nat_tests}
use Rattle.dsde_values.specs.declared.arrival.Arrival.{Arrival}
use Rattle.dsde_values.specs.declared.when.When.{When}
use Rattle.dsde_values.specs.declared.when.When.TheVariants.{At, Never}
use Rattle.dsde_sim_tree.specs.given.formalism.System.{System}
use Rattle.dsde_sim_tree.specs.declared.fault.TurnEnd.{TurnEnd}
use Rattle.dsde_sim_tree.specs.declared.fault.TurnEnd.TheVariants.{Memory}
use Rattle.dsde_sim_tree.specs.Told.{Told, told, quietly, ◌then◌}
use Rattle.dsde_sim_tree.specs.declared.sim.Sim.{Sim}
use Rattle.dsde_sim_tree.specs.declared.step.Step.{Step}
use Rattle.dsde_sim_tree.specs.declared.step.Step.TheVariants.{Turned, Quiet}
use Rattle.dsde_sim_tree.specs.Engine.{Engine, next_of, turned}
use Rattle.dsde_sim_tree.specs.Turn.{advance, advance_tree, is_taken, items_at, turn, turn_time}
use Rattle.dsde_run_meaning.specs.Run.{alone}
use Rattle.dsde_run.specs.Advancing.{IsTimely, StepsOn}

-- A step that comes to its end has a first part that does.
pub ends-first : {A B : Type 0} (end : Result A TurnEnd) (step : Told A) (next : A → Told B) (value : B) → step.end ≡ end →
    (step then next).end ≡ Ok value → (first : A) × ((next first).end ≡ Ok value)
ends-first (Ok first) step next value is ends = (first, rw is at ends)
ends-first (Err why) step next value is ends = let two = rw is at ends in absurd (cc two)

pub same_ok : {A : Type 0} (this that : A) → ◌≡◌ {A = Result A TurnEnd} (Ok this) (Ok that) → this ≡ that
same_ok this that same = cc same

same_some : (one other : ℕ) → Some one ≡ Some other → one ≡ other
same_some one other same = cc same

is_time : (one other : ℕ) → (one == other) ≡ true → one ≡ other
is_time one other same = grind (arith, nat_tests)

-- a turn is not later than its head
not-later : (next : When) (head : Arrival) (time : ℕ) → turn_time next (Some head) ≡ Some time → time ≤ head.time
not-later (At due) head time found = let same : min due head.time ≡ time = same_some (min due head.time) time found in omega (arith, same)
not-later Never head time found = let same : head.time ≡ time = same_some head.time time found in omega (arith, same)

-- and at its time where it takes it
timely : (next : When) (head : Option Arrival) (time : ℕ) (after : Engine) → after.time ≡ time → turn_time next head ≡ Some time → IsTimely head after (is_taken head time)
timely next None time after at found = tt
timely next (Some head) time after at found =
    let within = not-later next head time found in (
      omega (arith, at, within),
      λ taken. at ∙ sym (is_time head.time time taken),
    )

-- where there is no turn there is no head
no-head : (next : When) (head : Option Arrival) → turn_time next head ≡ None → head ≡ None
no-head next None none = refl
no-head (At due) (Some head) none = absurd (cc none)
no-head Never (Some head) none = absurd (cc none)

-- what the phases of a turn come to, whose state stands behind their tree
abbrev pub step_behind : {State : Type 0} → (Sim → State) → Option Arrival → ℕ → Sim → Told (Step × State)
step_behind behind head time tree = told [] (Turned (is_taken head time), behind tree)

module _ {State : Type 0} (engine : State → Engine) (own : State) (head : Option Arrival) (step : Step) (after : State) where
  -- A turn whose phases come to a tree.
  pub steps-turned : (phases : Told Sim) (behind : Sim → State) (time : ℕ) → turn_time (next_of (engine own)) head ≡ Some time →
      ((tree : Sim) → engine (behind tree) ≡ turned (engine own) tree time (is_taken head time)) → (phases then step_behind behind head time).end ≡ Ok (step, after) → StepsOn engine own after head step
  steps-turned phases behind time found is ends =
      let first = ends-first phases.end phases (step_behind behind head time) (step, after) refl ends in
      let here : StepsOn engine own (behind first.0) head (Turned (is_taken head time)) = record {
        counted = ap (λ (engine : Engine). engine.turn) (is first.0);
        timely = timely (next_of (engine own)) head time (engine (behind first.0)) (ap (λ (engine : Engine). engine.time) (is first.0)) found;
      } in
      subst (λ (answer : Step × State). StepsOn engine own answer.1 head answer.0) (same_ok {A = Step × State} (Turned (is_taken head time), behind first.0) (step, after) first.1) here

  -- No turn.
  pub steps-quiet : turn_time (next_of (engine own)) head ≡ None → ◌≡◌ {A = Result (Step × State) TurnEnd} (Ok (Quiet, own)) (Ok (step, after)) → StepsOn engine own after head step
  steps-quiet none ends =
      let here : StepsOn engine own own head Quiet = (no-head (next_of (engine own)) head none, refl) in
      subst (λ (answer : Step × State). StepsOn engine own answer.1 head answer.0) (same_ok {A = Step × State} (Quiet, own) (step, after) ends) here

-- the step of an engine in path order, by its tree and the time of its turn
abbrev step_by : System → Engine → Option Arrival → Option Sim → Option ℕ → Told (Step × Engine)
step_by system engine head tree found = elim tree [ Some own ↦ advance_tree system engine own head found | None ↦ quietly (Err Memory) ]

steps-by : (system : System) (engine after : Engine) (head : Option Arrival) (step : Step) (tree : Option Sim) (found : Option ℕ) → turn_time (next_of engine) head ≡ found →
    (step_by system engine head tree found).end ≡ Ok (step, after) → StepsOn alone engine after head step
steps-by system engine after head step None found is ends = absurd (cc ends)
steps-by system engine after head step (Some tree) None is ends = steps-quiet alone engine head step after is ends
steps-by system engine after head step (Some tree) (Some time) is ends =
    steps-turned alone engine head step after (turn system tree (engine.turn + 1) time (items_at head time)) (λ tree. turned engine tree time (is_taken head time)) time is (λ tree. refl) ends

-- A step in path order.
pub steps-on : (system : System) (engine after : Engine) (head : Option Arrival) (step : Step) → (advance system engine head).end ≡ Ok (step, after) → StepsOn alone engine after head step
steps-on system engine after head step ends = steps-by system engine after head step engine.tree (turn_time (next_of engine) head) refl ends
