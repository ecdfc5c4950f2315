-- What is delivered, by the component or the executive that stands at its path.
use Rattle.std.specs.Prelude.{◌≡◌, ℕ, ◌||◌, true, List, map, Some}
use Rattle.std.specs.List.{range_with_len}
use Rattle.dsde_values.specs.declared.name.Name.{Name}
use Rattle.dsde_values.specs.declared.path.Path.{Path}
use Rattle.dsde_values.specs.Path.{root}
use Rattle.dsde_sim_tree.specs.given.formalism.leaf_Leaf.{Leaf}
use Rattle.dsde_sim_tree.specs.given.formalism.Leaf.{component_of, is_due, has_come}
use Rattle.dsde_sim_tree.specs.given.formalism.System.{System, Ports}
use Rattle.dsde_sim_tree.specs.declared.sim.Sim.{Sim}
use Rattle.dsde_sim_movers.specs.Deliveries.{Delivery, received}
use Rattle.dsde_sim_movers.specs.Movers.{leaf_at, path_behind, seat_behind, seat_of}

-- what the links of a tree carry to a component or an executive at a path, port by port
abbrev pub delivery_at : System → Sim → ℕ → Ports → Path → Leaf → Delivery
delivery_at system tree time got path leaf = record {
  path = path;
  model = leaf.model;
  ports = map (λ port. received system tree path port time got) (range_with_len 0 (component_of system leaf).ins);
}

-- A delivery is what comes to the component or the executive that stands at its path.
pub record IsFound (system : System) (tree : Sim) (time : ℕ) (got : Ports) (own : Delivery) : Type 0 where
  pub leaf : Leaf
  pub there : leaf_at (seat_behind root own.path) tree ≡ Some leaf
  pub is : own ≡ delivery_at system tree time got own.path leaf

-- A component or an executive that stands in a tree is due, or something comes to it: this is its delivery.
pub record Moves (system : System) (tree : Sim) (time : ℕ) (got : Ports) (own : Delivery) : Type 0 where
  pub names : List Name
  pub path : own.path ≡ path_behind root names
  pub leaf : Leaf
  pub there : leaf_at (seat_of names) tree ≡ Some leaf
  pub is : own ≡ delivery_at system tree time got own.path leaf
  pub called : (is_due leaf time || has_come own.ports) ≡ true
