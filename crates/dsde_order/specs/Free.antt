-- A turn whose movers move in an order that the words of a generator draw.
use Rattle.std.specs.Prelude.{ℕ, ◌+◌, [], List, length, Option, Some, None, Err}
use Rattle.rand_pcg.specs.Lcg.{Lcg}
use Rattle.dsde_values.specs.declared.arrival.Arrival.{Arrival}
use Rattle.dsde_values.specs.declared.arrival.Item.{Item}
use Rattle.dsde_values.specs.Path.{root}
use Rattle.dsde_sim_tree.specs.given.formalism.System.{System}
use Rattle.dsde_sim_tree.specs.declared.fault.TurnEnd.TheVariants.{Memory}
use Rattle.dsde_sim_tree.specs.Told.{Told, told, quietly, ◌then◌}
use Rattle.dsde_sim_tree.specs.declared.sim.Sim.{Sim}
use Rattle.dsde_sim_tree.specs.declared.step.Step.{Step}
use Rattle.dsde_sim_tree.specs.declared.step.Step.TheVariants.{Turned, Quiet}
use Rattle.dsde_sim_tree.specs.Engine.{Engine, next_of, turned}
use Rattle.dsde_sim_tree.specs.Turn as turns
use Rattle.dsde_sim_tree.specs.Turn.{is_taken, items_at, turn_time}
use Rattle.dsde_sim_movers.specs.Deliveries.{Delivery}
use Rattle.dsde_sim_movers.specs.Turns.{free_turn, turn_movers}
use Rattle.dsde_sim_movers.specs.Orders.{is_above}
use Rattle.dsde_drawing.specs.Drawing.{drawn}
use Rattle.dsde_drawing.specs.Words.{behind, next_words, seeded}

-- how many move in a turn
abbrev pub moves_of : System → Sim → ℕ → List Item → ℕ
moves_of system tree time items = length (turn_movers system tree time items)

-- the movers of a turn in the order that a generator draws, which gives one word for each
abbrev pub drawn_movers : System → Sim → ℕ → List Item → Lcg → List Delivery
drawn_movers system tree time items generator =
    drawn (is_above root) (moves_of system tree time items) (turn_movers system tree time items) (next_words (moves_of system tree time items) generator)

-- a turn in which they move in that order
abbrev pub drawn_turn : System → Sim → ℕ → ℕ → List Item → Lcg → Told Sim
drawn_turn system tree number time items generator = free_turn system tree number time items (drawn_movers system tree time items generator)

-- an engine, and the generator by which it draws
pub record Drawing : Type 0 where
  pub engine : Engine
  pub generator : Lcg

-- the engine and the generator behind a turn
abbrev pub after_turn : System → Drawing → Sim → Option Arrival → ℕ → Sim → Told (Step × Drawing)
after_turn system own tree head time after = told [] (
  Turned (is_taken head time),
  record {
    engine = turned own.engine after time (is_taken head time);
    generator = behind (moves_of system tree time (items_at head time)) own.generator;
  },
)

abbrev pub advance_tree : System → Drawing → Sim → Option Arrival → Option ℕ → Told (Step × Drawing)
advance_tree system own tree head None = told [] (Quiet, own)
advance_tree system own tree head (Some time) =
    drawn_turn system tree (own.engine.turn + 1) time (items_at head time) own.generator then after_turn system own tree head time

-- What an engine's next turn tells with this head of the input, in an order that is drawn. An engine without
-- a tree takes none.
abbrev pub advance : System → Drawing → Option Arrival → Told (Step × Drawing)
advance system own head = elim own.engine.tree [
  | Some tree ↦ advance_tree system own tree head (turn_time (next_of own.engine) head)
  | None ↦ quietly (Err Memory)
]

-- what the start of the model that runs tells, and the engine after it with the generator of a seed
abbrev pub start : System → ℕ → Told Drawing
start system seed = turns.start system then (λ engine. told [] (record { engine = engine; generator = seeded seed }))
