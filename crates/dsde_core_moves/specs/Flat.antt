-- A tree that lies in a grove, and its movers.
use Rattle.std.specs.Prelude.{◌≡◌, ℕ, false, Option, Some, None, Result, Ok, Err}
use Rattle.std.specs.FinSet as set
use Rattle.dsde_values.specs.Path.{root}
use Rattle.dsde_syntax.specs.declared.decl.Model.{Model}
use Rattle.dsde_sim_tree.specs.given.formalism.leaf_Leaf.{Leaf}
use Rattle.dsde_sim_tree.specs.declared.fault.TurnEnd.{TurnEnd}
use Rattle.dsde_core_flat.specs.given.grove.Grove as grove
use Rattle.dsde_core_flat.specs.given.grove.Grove.{IsTree, spot, value_of}
use Rattle.dsde_sim_tree.specs.declared.sim.Sim.{Sim}
use Rattle.dsde_core_flat.specs.given.sim_movers.Deliveries.{Delivery}
use Rattle.dsde_sim_changing.specs.given.sim_starting.Fitting.{FitsTree}
use Rattle.dsde_core_flat.specs.given.sim_movers.Movers.{leaf_at, seat_behind}
use Rattle.dsde_routes_wiring.specs.declared.wiring.Wiring.{Wiring}
use Rattle.dsde_routes_wiring.specs.Flatten.{flatten}
use Rattle.dsde_routes_wiring.specs.Sets.{Rows}
use Rattle.dsde_core_flat.specs.declared.spot.Spot.{Spot}
use Rattle.dsde_core_flat.specs.Shown.{leaf_in, part_under}
use Rattle.dsde_core_flat.specs.Stands.{is_net, StandsFor}
use Rattle.dsde_core_moves.specs.declared.flat.Flat.{Flat}
use Rattle.dsde_core_moves.specs.declared.flat.Mover.{Mover}

-- the tree that a flat state shows
abbrev pub tree_of : Flat → Sim
tree_of flat = part_under (value_of flat.grove) flat.root flat.wiring

-- the rows of a wiring
abbrev pub rows_of : Option Wiring → Rows
rows_of None = set.empty
rows_of (Some wiring) = flatten wiring

-- A flat state stands for the tree that it shows, which fits the program, and has the rows of its wiring.
pub record Stands (model : Model) (flat : Flat) : Type 0 where
  pub stands : StandsFor flat.grove flat.root flat.wiring (tree_of flat)
  pub fits : FitsTree model (tree_of flat)
  pub tree : IsTree flat.grove
  pub rows : flat.rows ≡ rows_of flat.wiring

-- what a step came to, with the tree that it left and the room
abbrev pub with_tree : {U : Type 0} → Flat → ℕ → Result U TurnEnd → Result (Sim × ℕ) TurnEnd
with_tree flat room (Ok done) = Ok (tree_of flat, room)
with_tree flat room (Err end) = Err end

-- what a mover receives, without its handle
abbrev pub delivery_of : Mover → Delivery
delivery_of mover = record { path = mover.path; model = mover.model; ports = mover.got }

-- the component or the executive under a mover's handle
abbrev pub leaf_of : Flat → Mover → Leaf
leaf_of flat mover = leaf_in (value_of flat.grove mover.handle)

-- A component or an executive is live under a mover's handle, with its path.
pub record IsThere (flat : Flat) (mover : Mover) : Type 0 where
  pub part : grove.Spot Spot
  pub live : spot flat.grove mover.handle ≡ Some part
  pub path : part.path ≡ mover.path.names
  pub kind : is_net part.value ≡ false

-- An atomic component stands in the tree at a mover's path.
pub record IsComponent (flat : Flat) (mover : Mover) : Type 0 where
  pub leaf : Leaf
  pub sits : leaf_at (seat_behind root mover.path) (tree_of flat) ≡ Some leaf
  pub atomic : leaf.boss ≡ false
