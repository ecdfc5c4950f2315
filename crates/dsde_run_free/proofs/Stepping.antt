-- What a step of an engine that draws leaves.
use Rattle.std.proofs.Common.{◌≡◌, ℕ, ◌+◌, Option, Some, None, Ok, Err, refl}
use Rattle.dsde_values.specs.declared.arrival.Arrival.{Arrival}
use Rattle.dsde_sim_tree.specs.given.formalism.System.{System}
use Rattle.dsde_sim_tree.specs.declared.fault.TurnEnd.TheVariants.{Memory}
use Rattle.dsde_sim_tree.specs.Told.{Told, quietly}
use Rattle.dsde_sim_tree.specs.declared.sim.Sim.{Sim}
use Rattle.dsde_sim_tree.specs.declared.step.Step.{Step}
use Rattle.dsde_sim_tree.specs.Engine.{next_of, turned}
use Rattle.dsde_sim_tree.specs.Turn.{is_taken, items_at, turn_time}
use Rattle.dsde_drawing.specs.Words.{behind}
use Rattle.dsde_order.specs.Free.{Drawing, advance, advance_tree, drawn_turn, moves_of}
use Rattle.dsde_run.specs.Advancing.{StepsOn}
use Rattle.dsde_run.specs.lemmas.Steps.{steps-quiet, steps-turned}
use Rattle.dsde_run_free.specs.Drawn.{engine_of}

-- the step by the tree of the engine and the time of its turn
abbrev step_by : System → Drawing → Option Arrival → Option Sim → Option ℕ → Told (Step × Drawing)
step_by system own head tree found = elim tree [ Some part ↦ advance_tree system own part head found | None ↦ quietly (Err Memory) ]

-- the engine and the generator behind the phases of a turn
abbrev behind_turn : System → Drawing → Sim → Option Arrival → ℕ → Sim → Drawing
behind_turn system own tree head time after = record {
  engine = turned own.engine after time (is_taken head time);
  generator = behind (moves_of system tree time (items_at head time)) own.generator;
}

steps-by : (system : System) (own after : Drawing) (head : Option Arrival) (step : Step) (tree : Option Sim) (found : Option ℕ) → turn_time (next_of own.engine) head ≡ found →
    (step_by system own head tree found).end ≡ Ok (step, after) → StepsOn engine_of own after head step
steps-by system own after head step None found is ends = absurd (cc ends)
steps-by system own after head step (Some tree) None is ends = steps-quiet engine_of own head step after is ends
steps-by system own after head step (Some tree) (Some time) is ends =
    steps-turned engine_of own head step after (drawn_turn system tree (own.engine.turn + 1) time (items_at head time) own.generator) (behind_turn system own tree head time) time is (λ phase. refl) ends

pub steps-drawn : (system : System) (own after : Drawing) (head : Option Arrival) (step : Step) → (advance system own head).end ≡ Ok (step, after) → StepsOn engine_of own after head step
steps-drawn system own after head step ends = steps-by system own after head step own.engine.tree (turn_time (next_of own.engine) head) refl ends
