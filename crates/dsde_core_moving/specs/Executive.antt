-- An executive and its network in a tree that lies in a grove. That the structure follows each move of the executive
-- is from F. J. Barros, "Modeling Formalisms for Dynamic Structure Systems", ACM TOMACS 7(4), 1997.
use Rattle.std.specs.Prelude.{◌≡◌, ℕ, true, List, [], Some}
use Rattle.dsde_bank.specs.declared.handle.Handle.{Handle}
use Rattle.dsde_values.specs.declared.name.Name.{Name}
use Rattle.dsde_values.specs.declared.path.Path.{Path}
use Rattle.dsde_values.specs.Path.{root}
use Rattle.dsde_sim_tree.specs.given.formalism.leaf_Leaf.{Leaf}
use Rattle.dsde_sim_tree.specs.given.formalism.System.{System}
use Rattle.dsde_sim_tree.specs.Told.{Told, told, ◌then◌}
use Rattle.dsde_grove.specs.Grove.{value_of}
use Rattle.dsde_sim_tree.specs.declared.sim.Net.{Net}
use Rattle.dsde_sim_tree.specs.declared.sim.Sim.{Sim}
use Rattle.dsde_sim_tree.specs.declared.sim.Sim.TheVariants as sim
use Rattle.dsde_sim_tree.specs.declared.sim.Sim.TheViews.{out-Net}
use Rattle.dsde_sim_tree.specs.Move.{after_boss}
use Rattle.dsde_sim_movers.specs.Movers.{leaf_at, path_behind, seat_behind}
use Rattle.dsde_sim_movers.specs.Parts.{part_at, with_part}
use Rattle.dsde_core_moves.specs.given.core_flat.spot_Spot_TheVariants as variant
use Rattle.dsde_core_moves.specs.declared.flat.Flat.{Flat}
use Rattle.dsde_core_moves.specs.declared.flat.Mover.{Mover}
use Rattle.dsde_core_moves.specs.Flat.{tree_of}

-- An executive stands in the tree at a mover's path.
pub record IsExecutive (flat : Flat) (mover : Mover) : Type 0 where
  pub leaf : Leaf
  pub sits : leaf_at (seat_behind root mover.path) (tree_of flat) ≡ Some leaf
  pub boss : leaf.boss ≡ true

-- the names that lead from the root to the network whose executive moves
abbrev pub place_of : Mover → List Name
place_of mover = (seat_behind root mover.path).names

-- The executive under a handle is that of the network at a path of the tree.
pub record IsExecutiveAt (flat : Flat) (handle : Handle) (path : Path) : Type 0 where
  pub place : List Name
  pub net : Net
  pub at : path ≡ path_behind root place
  pub there : part_at place (tree_of flat) ≡ Some (sim.Net net)
  pub held : value_of flat.grove handle ≡ Some (variant.Leaf (out-Net net).boss)

-- the executive of the network at a place, with its path, has moved: the structure of the network follows
abbrev pub followed : System → Sim → List Name → Path → Net → ℕ → ℕ → Told (Sim × ℕ)
followed system tree place path net time room =
    after_boss system (out-Net net).model (out-Net net).args (out-Net net).kids path time room (out-Net net).boss then (λ after.
    told [] (with_part place (sim.Net after.0) tree, after.1))
