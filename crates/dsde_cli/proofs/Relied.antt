-- What the proofs rely on: the laws of those that move in a turn, in whatever lawful order they do.
use Rattle.std.proofs.Common.{◌≡◌, ◌≤◌, ◌↔◌, ℕ, List, ◌∷◌, ◌++◌, length, map, Ok}
use Rattle.std.specs.List.{AllByRecursion}
use Rattle.dsde_values.specs.declared.arrival.Item.{Item}
use Rattle.dsde_values.specs.declared.path.Path.{Path}
use Rattle.dsde_values.specs.Path.{root}
use Rattle.dsde_formalism.specs.declared.leaf.Leaf.{Leaf}
use Rattle.dsde_formalism.specs.System.{Ports, System}
use Rattle.dsde_structure.specs.declared.sources.Sources.{Sources}
use Rattle.dsde_sim_tree.specs.declared.sim.Net.{Net}
use Rattle.dsde_sim_tree.specs.declared.sim.Sim.{Sim}
use Rattle.dsde_sim_tree.specs.declared.sim.Sim.TheVariants as sim
use Rattle.dsde_sim_tree.specs.declared.sim.Sim.TheViews.{out-Net}
use Rattle.dsde_sim_tree.specs.Move.{ins_of}
use Rattle.dsde_sim_tree.specs.Output.{by_port, kid_output, sources_of}
use Rattle.dsde_sim_movers.specs.Deliveries.{Delivery, deliveries}
use Rattle.dsde_sim_movers.specs.Found.{IsFound}
use Rattle.dsde_sim_movers.specs.Movers.{leaf_at, move_each, movers, seat_behind}
use Rattle.dsde_sim_movers.specs.Names.{IsNamed}
use Rattle.dsde_sim_movers.specs.Turns.{turn_movers}
use Rattle.dsde_sim_movers.specs.Orders.{IsDrawn, IsLawful, IsOrderOf, is_above}
use Rattle.dsde_sim_movers.specs.Walk.{called_one, net_movers}
use Rattle.dsde_drawing.specs.Drawing.{drawn}

pub record Turns : Type 0 where
  pub leaf : (system : System) (leaf : Leaf) (path : Path) (time : ℕ) (got : Ports) → movers system (sim.Leaf leaf) path time got ≡ called_one leaf path time got
  pub net : (system : System) (net : Net) (path : Path) (time : ℕ) (got : Ports) (sources : Sources) → IsNamed (sim.Net net)
      → sources_of system (map (kid_output system) (out-Net net).kids) (out-Net net).boss path time got ≡ Ok sources → movers system (sim.Net net) path time got ≡ net_movers system net path time sources
  pub found : (system : System) (tree : Sim) (time : ℕ) (items : List Item) → IsNamed tree
      → AllByRecursion (IsFound system tree time (by_port (ins_of system tree) items)) (deliveries system tree root time (by_port (ins_of system tree) items))
  pub wait : (system : System) (tree after : Sim) (time : ℕ) (items : List Item) (before later : List Delivery) (own : Delivery) (room left : ℕ) → IsNamed tree
      → IsOrderOf (turn_movers system tree time items) (before ++ own ∷ later) → IsLawful root (before ++ own ∷ later) → (move_each system root time before tree room).end ≡ Ok (after, left)
      → leaf_at (seat_behind root own.path) after ≡ leaf_at (seat_behind root own.path) tree
  pub orders : (path : Path) (all order : List Delivery) → (IsOrderOf all order × IsLawful path order) ↔ IsDrawn path all order
  pub draws : (system : System) (tree : Sim) (time : ℕ) (items : List Item) (words : List ℕ) → IsNamed tree → length (turn_movers system tree time items) ≤ length words
      → IsDrawn root (turn_movers system tree time items) (drawn (is_above root) (length (turn_movers system tree time items)) (turn_movers system tree time items) words)
