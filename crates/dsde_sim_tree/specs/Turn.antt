-- A start and a turn: the events that they tell, and what they come to (F. J. Barros, "Abstract
-- Simulators for the DSDE Formalism", WSC 1998).
use Rattle.std.specs.Prelude.{ℕ, ◌+◌, ◌-◌, ◌==◌, min, Bool, false, if◌then◌else◌, List, [], ◌∷◌, Option, Some, None, Err}
use Rattle.dsde_values.specs.declared.arrival.Arrival.{Arrival}
use Rattle.dsde_values.specs.declared.arrival.Item.{Item}
use Rattle.dsde_values.specs.declared.value.Value.{Value}
use Rattle.dsde_values.specs.declared.when.When.{When}
use Rattle.dsde_values.specs.declared.when.When.TheVariants.{At, Never}
use Rattle.dsde_values.specs.Path.{root}
use Rattle.dsde_language.specs.declared.ids.ModelId.{ModelId}
use Rattle.dsde_formalism.specs.System.{Ports, System}
use Rattle.dsde_sim_tree.specs.declared.event.Event.TheVariants.{Turn}
use Rattle.dsde_sim_tree.specs.declared.fault.TurnEnd.TheVariants.{Memory}
use Rattle.dsde_sim_tree.specs.Told.{Told, at, told, quietly, telling, ◌then◌}
use Rattle.dsde_sim_tree.specs.declared.sim.Sim.{Sim}
use Rattle.dsde_sim_tree.specs.declared.sim.TheConstants.{DEEPEST}
use Rattle.dsde_sim_tree.specs.Tree.{parts}
use Rattle.dsde_sim_tree.specs.Output.{by_port, output, outs_from}
use Rattle.dsde_sim_tree.specs.Start as tree
use Rattle.dsde_sim_tree.specs.Move.{ins_of, move}
use Rattle.dsde_sim_tree.specs.declared.step.Step.{Step}
use Rattle.dsde_sim_tree.specs.declared.step.Step.TheVariants.{Turned, Quiet}
use Rattle.dsde_sim_tree.specs.declared.step.TheConstants.{MOST_PARTS}
use Rattle.dsde_sim_tree.specs.Engine.{Engine, next_of, begun, turned}

-- the tree without the room that is left
abbrev pub without_room : Sim × ℕ → Told Sim
without_room moved = told [] moved.0

-- the tree of the model that runs, which starts at time 0
abbrev pub started_tree : System → ModelId → List Value → Told Sim
started_tree system model args = tree.start system DEEPEST model args root 0 MOST_PARTS then without_room

-- what the start of the model that runs tells, and the engine after it
abbrev pub start : System → Told Engine
start system =
    quietly (at root system.top) then (λ chosen.
    started_tree system chosen.model chosen.args then (λ own. told [] (begun own)))

-- the move phase of a tree that sends these values, and receives those
abbrev pub move_phase : System → Sim → ℕ → Ports → Ports → Told Sim
move_phase system own time got sent =
    telling (outs_from 0 sent) (move system own root time got (MOST_PARTS - parts own) then without_room)

-- one turn, with these items of input: what is due sends, and then the parts move
abbrev pub turn : System → Sim → ℕ → ℕ → List Item → Told Sim
turn system own number time items =
    telling (Turn number time ∷ []) (
    quietly (output system own root time) then move_phase system own time (by_port (ins_of system own) items))

-- the time of the next turn: that of the next event or of the head of the input, the lesser if there are both
abbrev pub turn_time : When → Option Arrival → Option ℕ
turn_time (At time) (Some head) = Some (min time head.time)
turn_time (At time) None = Some time
turn_time Never (Some head) = Some head.time
turn_time Never None = None

-- the head is taken in the turn at its time
abbrev pub is_taken : Option Arrival → ℕ → Bool
is_taken (Some head) time = head.time == time
is_taken None time = false

-- the items of a head that is taken
abbrev pub items_at : Option Arrival → ℕ → List Item
items_at (Some head) time = if head.time == time then head.items else []
items_at None time = []

-- an engine whose tree has taken a turn
abbrev pub after_turn : Engine → Option Arrival → ℕ → Sim → Told (Step × Engine)
after_turn engine head time own = told [] (Turned (is_taken head time), turned engine own time (is_taken head time))

-- what a tree's next turn tells with this head of the input; without a next event and a head there is none
abbrev pub advance_tree : System → Engine → Sim → Option Arrival → Option ℕ → Told (Step × Engine)
advance_tree system engine own head None = told [] (Quiet, engine)
advance_tree system engine own head (Some time) =
    turn system own (engine.turn + 1) time (items_at head time) then after_turn engine head time

-- What an engine's next turn tells with this head of the input, and the engine after it. An engine
-- without a tree takes none.
abbrev pub advance : System → Engine → Option Arrival → Told (Step × Engine)
advance system engine head = elim engine.tree [
  | Some own ↦ advance_tree system engine own head (turn_time (next_of engine) head)
  | None ↦ quietly (Err Memory)
]
