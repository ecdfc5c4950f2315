-- The start and the turns of an engine that draws.
use Rattle.std.proofs.Common.{◌≡◌, ◌∙◌, ℕ, ◌+◌, ◌≤◌, Bool, true, false, if◌then◌else◌, arith, List, [], length, drop, Option, Some, None, IfSome, Result, Ok, Err, sym, ap, subst, append-nil}
use Rattle.std.specs.List.Sorted.{IsPermutation}
use Rattle.dsde_syntax.specs.declared.decl.Model.{Model}
use Rattle.dsde_values.specs.declared.arrival.Arrival.{Arrival}
use Rattle.dsde_values.specs.declared.when.When.{When}
use Rattle.dsde_values.specs.declared.when.When.TheVariants.{Never}
use Rattle.dsde_values.specs.Path.{root}
use Rattle.dsde_sim_tree.specs.given.formalism.System.{Chosen, System}
use Rattle.dsde_sim_tree.specs.declared.event.Event.{Event}
use Rattle.dsde_sim_tree.specs.declared.fault.TurnEnd.{TurnEnd}
use Rattle.dsde_sim_tree.specs.declared.fault.TurnEnd.TheVariants.{Memory}
use Rattle.dsde_sim_tree.specs.Told.{Comes, Told, Tells, at, told, quietly, ◌then◌}
use Rattle.dsde_run.specs.given.sim_telling.lemmas_GoingOn.{GoesOn, goes-begin, goes-end, goes-ends, goes-step, goes-stops}
use Rattle.dsde_sim_tree.specs.declared.sim.Sim.{Sim}
use Rattle.dsde_sim_tree.specs.Tree.{next_time}
use Rattle.dsde_sim_tree.specs.declared.step.Step.{Step}
use Rattle.dsde_sim_tree.specs.declared.step.Step.TheVariants.{Turned}
use Rattle.dsde_sim_tree.specs.Engine.{Engine, begun, turned}
use Rattle.dsde_sim_tree.specs.Turn as turns
use Rattle.dsde_sim_tree.specs.Turn.{is_taken, items_at, started_tree, turn_time}
use Rattle.dsde_order.specs.given.sim_moving.Fitting.{FitsTree}
use Rattle.dsde_sim_movers.specs.Names.{IsNamed}
use Rattle.dsde_sim_movers.specs.lemmas.Seats.{drop-front}
use Rattle.dsde_sim_movers.specs.lemmas.Steps.{then-assoc}
use Rattle.dsde_run.specs.given.sim_working.Working.{Stands, StandsIf}
use Rattle.dsde_drawing.specs.Words.{behind, seeded}
use Rattle.dsde_order.specs.Free.{Drawing, advance, advance_tree, after_turn, drawn_turn, moves_of, start}
use Rattle.dsde_run_free.specs.Drawn.{AgreesWithPathOrder}

abbrev next_in : Option Sim → When
next_in found = elim found [ Some tree ↦ next_time tree | None ↦ Never ]

abbrev advance_by : System → Drawing → Option Arrival → Option Sim → Option ℕ → Told (Step × Drawing)
advance_by system own head found time = elim found [ Some tree ↦ advance_tree system own tree head time | None ↦ quietly (Err Memory) ]

module _ (system : System) (own : Drawing) (tree : Sim) (head : Option Arrival) (old : List Event) (is : own.engine.tree ≡ Some tree) where
  opened : (time : Option ℕ) → turn_time (next_time tree) head ≡ time → advance system own head ≡ advance_tree system own tree head time
  opened time at = (λ i. advance_by system own head (is i) (turn_time (next_in (is i)) head)) ∙ ap (advance_tree system own tree head) at

  module _ (time : ℕ) (at : turn_time (next_time tree) head ≡ Some time) where
    abbrev step : Told Sim
    step = drawn_turn system tree (own.engine.turn + 1) time (items_at head time) own.generator

    goes : GoesOn (advance system own head) (step then after_turn system own tree head time) old old
    goes = subst (λ (rest : Told (Step × Drawing)). GoesOn (advance system own head) rest old old) (opened (Some time) at) (goes-begin (advance system own head) old)

    -- the engine and the generator behind the turn
    abbrev pub later : Sim → Drawing
    later after = record {
      engine = turned own.engine after time (is_taken head time);
      generator = behind (moves_of system tree time (items_at head time)) own.generator;
    }

    -- the next turn comes to an end
    pub advance-ok : (after : Sim) (new : List Event) → Tells step old new (Ok after) → Tells (advance system own head) old new (Ok (Turned (is_taken head time), later after))
    advance-ok after new tells =
        goes-end (advance system own head) (Turned (is_taken head time), later after) old new
        (goes-step (advance system own head) step (after_turn system own tree head time) old old new after goes tells.0 tells.1)

    -- the next turn faults, or memory runs out in it
    pub advance-err : (end : TurnEnd) (new : List Event) → Tells step old new (Err end) → Tells (advance system own head) old new (Err end)
    advance-err end new tells = goes-stops (advance system own head) step (after_turn system own tree head time) old old new end goes tells

-- the turns of an engine agree with those in path order
abbrev pub AdvancesAgree : Type 0
AdvancesAgree = (system : System) (own after : Drawing) (head : Option Arrival) (step : Step) (other : Step × Engine) → IfSome own.engine.tree IsNamed →
    (turns.advance system own.engine head).end ≡ Ok other → (advance system own head).end ≡ Ok (step, after) →
    (other ≡ (step, after.engine)) × IsPermutation (turns.advance system own.engine head).events (advance system own head).events

pub agrees : AdvancesAgree → (system : System) (own after : Drawing) (head : Option Arrival) (step : Step) (old new : List Event) → IfSome own.engine.tree IsNamed →
    Tells (advance system own head) old new (Ok (step, after)) → AgreesWithPathOrder system own.engine head step after.engine (drop (length old) new)
agrees agree system own after head step old new named tells other plain =
    let both = agree system own after head step other named plain tells.1 in (
      both.0,
      subst (IsPermutation (turns.advance system own.engine head).events)
          (sym (ap (drop (length old)) tells.0 ∙ drop-front old (advance system own head).events)) both.1,
    )

-- records that were taken are no more than turns that are done
pub counts : (took : Bool) (taken turn one : ℕ) → taken ≤ turn → one ≡ (if took then 1 else 0) → taken + one ≤ turn + 1
counts true taken turn one within is = omega (arith, within, is)
counts false taken turn one within is = omega (arith, within, is)

pub if-named : ((model : Model) (tree : Sim) → FitsTree model tree → IsNamed tree) → (model : Model) (found : Option Sim) → StandsIf model found → IfSome found IsNamed
if-named named model None stands = tt
if-named named model (Some tree) stands = named model tree (Stands.fits stands)

-- a start
module _ (system : System) (seed : ℕ) (old : List Event) where
  abbrev begins : Sim → Told Drawing
  begins tree = told [] (record { engine = begun tree; generator = seeded seed })

  abbrev starts : Chosen → Told Drawing
  starts chosen = started_tree system chosen.model chosen.args then begins

  start-is : start system seed ≡ (quietly (at root system.top) then starts)
  start-is =
      then-assoc (quietly (at root system.top)) (λ chosen. started_tree system chosen.model chosen.args then (λ tree. told [] (begun tree))) (λ engine. told [] (record { engine = engine; generator = seeded seed }))
      ∙ (λ i. quietly (at root system.top) then (λ chosen. then-assoc (started_tree system chosen.model chosen.args) (λ tree. told [] (begun tree)) (λ engine. told [] (record { engine = engine; generator = seeded seed })) i))

  goes-start : GoesOn (start system seed) (quietly (at root system.top) then starts) old old
  goes-start = subst (λ (rest : Told Drawing). GoesOn (start system seed) rest old old) start-is (goes-begin (start system seed) old)

  -- without arguments none comes
  pub start-ends : (end : TurnEnd) → (let none : Result Chosen TurnEnd = Err end in Comes (at root system.top) none) → Tells (start system seed) old old (Err end)
  start-ends end comes = goes-ends (start system seed) (at root system.top) starts old old end goes-start comes

  module _ (chosen : Chosen) (top : at root system.top ≡ Ok chosen) where
    goes-tree : GoesOn (start system seed) (starts chosen) old old
    goes-tree = goes-step (start system seed) (quietly (at root system.top)) starts old old old chosen goes-start (sym (append-nil old)) top

    pub start-stops : (end : TurnEnd) (new : List Event) → Tells (started_tree system chosen.model chosen.args) old new (Err end) → Tells (start system seed) old new (Err end)
    start-stops end new tells = goes-stops (start system seed) (started_tree system chosen.model chosen.args) begins old old new end goes-tree tells

    pub start-ok : (tree : Sim) (new : List Event) → Tells (started_tree system chosen.model chosen.args) old new (Ok tree) → Tells (start system seed) old new (Ok (record { engine = begun tree; generator = seeded seed }))
    start-ok tree new tells =
        goes-end (start system seed) (record { engine = begun tree; generator = seeded seed }) old new
        (goes-step (start system seed) (started_tree system chosen.model chosen.args) begins old old new tree goes-tree tells.0 tells.1)
