-- What a turn does, by the events that it tells and by the structures that executives take in it: the work
-- that its price is measured by.
use Rattle.std.specs.Prelude.{◌≡◌, ℕ, ◌+◌, ◌-◌, Bool, true, false, List, [], ◌∷◌, length, sum_by, Option, Some, None, Result, Ok, Err, option_map}
use Rattle.dsde_values.specs.declared.arrival.Item.{Item}
use Rattle.dsde_values.specs.declared.path.Path.{Path}
use Rattle.dsde_values.specs.Path.{root}
use Rattle.dsde_sim_tree.specs.given.formalism.leaf_Leaf.{Leaf}
use Rattle.dsde_sim_tree.specs.given.formalism.leaf_MoveKind.{MoveKind}
use Rattle.dsde_sim_tree.specs.given.formalism.Leaf.{kind_of}
use Rattle.dsde_sim_tree.specs.given.formalism.System.{System, Ports}
use Rattle.dsde_sim_tree.specs.given.structure.plan_Plan.{Plan}
use Rattle.dsde_sim_tree.specs.declared.event.Event.{Event}
use Rattle.dsde_sim_tree.specs.declared.event.Event.TheVariants as event
use Rattle.dsde_sim_tree.specs.declared.fault.TurnEnd.{TurnEnd}
use Rattle.dsde_sim_tree.specs.Told.{to_boss}
use Rattle.dsde_sim_tree.specs.declared.sim.Kid.{Kid}
use Rattle.dsde_sim_tree.specs.declared.sim.Net.{Net}
use Rattle.dsde_sim_tree.specs.declared.sim.Sim.{Sim}
use Rattle.dsde_sim_tree.specs.declared.sim.Sim.TheOpen as layer
use Rattle.dsde_sim_tree.specs.declared.sim.Sim.TheOpen.{Sim-F}
use Rattle.dsde_sim_tree.specs.declared.sim.Sim.TheViews.{out-Sim, out-Net}
use Rattle.dsde_sim_tree.specs.Move.{take_move}
use Rattle.dsde_sim_tree.specs.Start.{structure_of}
use Rattle.dsde_sim_tree.specs.Tree.{parts}
use Rattle.dsde_sim_tree.specs.declared.step.TheConstants.{MOST_PARTS}
use Rattle.dsde_sim_movers.specs.Deliveries.{Delivery}
use Rattle.dsde_sim_movers.specs.Movers.{seat_behind, path_behind, move_one}
use Rattle.dsde_sim_movers.specs.Parts.{part_at}
use Rattle.dsde_sim_movers.specs.Turns.{turn_movers}

-- the work that an event tells: a move is one, a part that starts is one, and a drop is as many parts as it drops
abbrev pub work_of : Event → ℕ
work_of (event.AddNet path model) = 1
work_of (event.AddLeaf path model state next) = 1
work_of (event.Turn number time) = 0
work_of (event.Out port value) = 0
work_of (event.Get path model port value) = 0
work_of (event.Move path model kind state next) = 1
work_of (event.Drop path count) = count
work_of (event.Finish how turns time) = 0

-- the work that events tell
abbrev pub work : List Event → ℕ
work events = sum_by work_of events

-- the entries of a structure that is taken
abbrev pub entries_in : Result Plan TurnEnd → ℕ
entries_in (Ok plan) = length plan.entries
entries_in (Err end) = 0

-- those of the structure that goes with an executive of the network at a path that has moved
abbrev pub entries_after : System → Net → Path → Result Leaf TurnEnd → ℕ
entries_after system net path (Ok moved) = entries_in (structure_of system (out-Net net).model (out-Net net).args moved path)
entries_after system net path (Err end) = 0

-- those that a network's executive takes with what it received, where it moves
abbrev pub entries_by : System → Net → Path → ℕ → Ports → Option MoveKind → ℕ
entries_by system net path time got (Some kind) = entries_after system net path (take_move system (out-Net net).boss kind (to_boss path) time got).end
entries_by system net path time got None = 0

-- those of a part, where its executive moves
abbrev pub entries_of : System → Bool → Path → ℕ → Ports → Option (Sim-F Sim Kid Net) → ℕ
entries_of system true path time got (Some (layer.Net net)) = entries_by system net path time got (kind_of (out-Net net).boss time got)
entries_of system true path time got (Some (layer.Leaf leaf)) = 0
entries_of system false path time got found = 0
entries_of system true path time got None = 0

-- how many entries the structure has that is taken where one of those moves to whom it is delivered
abbrev pub entries_one : System → Path → ℕ → Delivery → Sim → ℕ
entries_one system path time own tree =
    let seat = seat_behind path own.path in
    entries_of system seat.is_boss (path_behind path seat.names) time own.ports (option_map out-Sim (part_at seat.names tree))

-- and where they move one after another, with this room
abbrev pub entries_each : System → Path → ℕ → List Delivery → Sim → ℕ → ℕ
entries_each system path time [] tree room = 0
entries_each system path time (own ∷ others) tree room =
    entries_one system path time own tree
    + (elim (move_one system path time own tree room).end [ Ok after ↦ entries_each system path time others after.0 after.1 | Err end ↦ 0 ])

-- the entries of all structures that are taken in a turn with these items of input
abbrev pub turn_entries : System → Sim → ℕ → List Item → ℕ
turn_entries system tree time items = entries_each system root time (turn_movers system tree time items) tree (MOST_PARTS - parts tree)

-- A network's executive that moves has a structure for its new state, with so many entries.
pub record TakesStructure (system : System) (net : Net) (kind : MoveKind) (path : Path) (time : ℕ) (got : Ports) (entries : ℕ) : Type 0 where
  pub moved : Leaf
  pub plan : Plan
  pub moves : (take_move system (out-Net net).boss kind (to_boss path) time got).end ≡ Ok moved
  pub follows : structure_of system (out-Net net).model (out-Net net).args moved path ≡ Ok plan
  pub all : entries ≡ length plan.entries
