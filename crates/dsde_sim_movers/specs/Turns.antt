-- A turn in which the movers move in some order.
use Rattle.std.specs.Prelude.{ℕ, ◌-◌, List, [], ◌∷◌}
use Rattle.dsde_values.specs.declared.arrival.Item.{Item}
use Rattle.dsde_values.specs.Path.{root}
use Rattle.dsde_sim_tree.specs.given.formalism.System.{System, Ports}
use Rattle.dsde_sim_tree.specs.declared.event.Event.TheVariants.{Turn}
use Rattle.dsde_sim_tree.specs.Told.{Told, quietly, telling, ◌then◌}
use Rattle.dsde_sim_tree.specs.declared.sim.Sim.{Sim}
use Rattle.dsde_sim_tree.specs.Move.{ins_of}
use Rattle.dsde_sim_tree.specs.Output.{by_port, output, outs_from}
use Rattle.dsde_sim_tree.specs.Tree.{parts}
use Rattle.dsde_sim_tree.specs.declared.step.TheConstants.{MOST_PARTS}
use Rattle.dsde_sim_tree.specs.Turn.{without_room}
use Rattle.dsde_sim_movers.specs.Deliveries.{Delivery}
use Rattle.dsde_sim_movers.specs.Movers.{move_each, movers}

-- the movers of a tree in a turn with these items of input, in path order
abbrev pub turn_movers : System → Sim → ℕ → List Item → List Delivery
turn_movers system tree time items = movers system tree root time (by_port (ins_of system tree) items)

-- the move phase of a tree that sends these values, in which the movers move in this order
abbrev pub free_phase : System → Sim → ℕ → List Delivery → Ports → Told Sim
free_phase system tree time order sent =
    telling (outs_from 0 sent) (move_each system root time order tree (MOST_PARTS - parts tree) then without_room)

-- one turn in which the movers move in this order
abbrev pub free_turn : System → Sim → ℕ → ℕ → List Item → List Delivery → Told Sim
free_turn system tree number time items order =
    telling (Turn number time ∷ []) (quietly (output system tree root time) then free_phase system tree time order)
