-- A turn as its movers, one after another: the components and the executives that are due or to which
-- something comes, and what one of them does to the tree.
use Rattle.std.specs.Prelude.{ℕ, ◌||◌, Bool, true, false, if◌then◌else◌, List, [], ◌∷◌, ◌++◌, length, drop, filter, Option, Some, None, option_and_then}
use Rattle.std.specs.List.Sorted.{IsStrictlySortedBy}
use Rattle.std.specs.Ordering.{on}
use Rattle.dsde_values.specs.declared.name.Name.{Name}
use Rattle.dsde_values.specs.declared.path.Path.{Path}
use Rattle.dsde_values.specs.Path.{path_cmp}
use Rattle.dsde_sim_tree.specs.given.formalism.leaf_Leaf.{Leaf}
use Rattle.dsde_sim_tree.specs.given.formalism.System.{System, Ports}
use Rattle.dsde_sim_tree.specs.given.formalism.Leaf.{is_due, has_come}
use Rattle.dsde_sim_tree.specs.given.structure.Gather.{is_same_name}
use Rattle.dsde_values.specs.Path.{EXEC}
use Rattle.dsde_sim_tree.specs.Told.{Told, told, ◌then◌}
use Rattle.dsde_sim_tree.specs.declared.sim.Kid.{Kid}
use Rattle.dsde_sim_tree.specs.declared.sim.Net.{Net}
use Rattle.dsde_sim_tree.specs.declared.sim.Sim.{Sim}
use Rattle.dsde_sim_tree.specs.declared.sim.Sim.TheOpen as layer
use Rattle.dsde_sim_tree.specs.declared.sim.Sim.TheOpen.{Sim-F}
use Rattle.dsde_sim_tree.specs.declared.sim.Sim.TheViews.{out-Sim, out-Net}
use Rattle.dsde_sim_tree.specs.Move.{move_leaf_at, boss_moves}
use Rattle.dsde_sim_tree.specs.Opened.{as_leaf, as_net}
use Rattle.dsde_sim_movers.specs.Deliveries.{Delivery, deliveries}
use Rattle.dsde_sim_movers.specs.Parts.{part_at, with_part}

-- where a component or an executive has its seat: the names of the part that it is, or of the network
-- whose executive it is
pub record Seat : Type 0 where
  pub names : List Name
  pub is_boss : Bool

-- a seat beneath the component of this name
abbrev pub seat_within : Name → Seat → Seat
seat_within name seat = record { names = name ∷ seat.names; is_boss = seat.is_boss }

-- The last name is the executive's, or all names are the component's.
abbrev pub seat_of : List Name → Seat
seat_of [] = record { names = []; is_boss = false }
seat_of (name ∷ []) =
    if is_same_name EXEC name then record { names = []; is_boss = true } else record { names = name ∷ []; is_boss = false }
seat_of (name ∷ later ∷ names) = seat_within name (seat_of (later ∷ names))

abbrev pub leaf_in : Bool → Sim-F Sim Kid Net → Option Leaf
leaf_in false (layer.Leaf leaf) = Some leaf
leaf_in true (layer.Leaf leaf) = None
leaf_in false (layer.Net net) = None
leaf_in true (layer.Net net) = Some (out-Net net).boss

-- the component or the executive that has this seat in a tree
abbrev pub leaf_at : Seat → Sim → Option Leaf
leaf_at seat tree = option_and_then (λ part. leaf_in seat.is_boss (out-Sim part)) (part_at seat.names tree)

-- what a part becomes, with this room, and the room left
abbrev pub Step : Type 0
Step = Sim → ℕ → Told (Sim × ℕ)

-- the part that stands behind these names takes a step
abbrev pub step_at : List Name → Step → Step
step_at names step tree room = elim (part_at names tree) [
  | Some part ↦ step part room then (λ after. told [] (with_part names after.0 tree, after.1))
  | None ↦ told [] (tree, room)
]

abbrev pub moves_in : System → Bool → Path → ℕ → Ports → Sim → ℕ → Sim-F Sim Kid Net → Told (Sim × ℕ)
moves_in system false path time got part room (layer.Leaf leaf) = move_leaf_at system leaf path time got then as_leaf room
moves_in system true path time got part room (layer.Leaf leaf) = told [] (part, room)
moves_in system false path time got part room (layer.Net net) = told [] (part, room)
moves_in system true path time got part room (layer.Net net) =
    boss_moves system (out-Net net).model (out-Net net).args (out-Net net).boss (out-Net net).links (out-Net net).kids path time got room then as_net

-- a component at a path moves, or the executive of the network at that path moves and its structure follows
abbrev pub moves : System → Bool → Path → ℕ → Ports → Step
moves system is_boss path time got part room = moves_in system is_boss path time got part room (out-Sim part)

-- the path behind a path
abbrev pub path_behind : Path → List Name → Path
path_behind path names = record { names = path.names ++ names }

-- in what stands at a path, the component or the executive of a seat moves with what it received
abbrev pub move_at : System → Path → ℕ → Seat → Ports → Step
move_at system path time seat got = step_at seat.names (moves system seat.is_boss (path_behind path seat.names) time got)

-- the seat of a path behind a path
abbrev pub seat_behind : Path → Path → Seat
seat_behind path other = seat_of (drop (length path.names) other.names)

-- to whom it is delivered moves
abbrev pub move_one : System → Path → ℕ → Delivery → Step
move_one system path time own = move_at system path time (seat_behind path own.path) own.ports

-- one after another
abbrev pub move_each : System → Path → ℕ → List Delivery → Step
move_each system path time [] tree room = told [] (tree, room)
move_each system path time (own ∷ others) tree room =
    move_one system path time own tree room then (λ after. move_each system path time others after.0 after.1)

abbrev pub is_called : ℕ → Ports → Option Leaf → Bool
is_called time got None = false
is_called time got (Some leaf) = is_due leaf time || has_come got

-- to whom it is delivered is due, or something comes
abbrev pub is_mover : Sim → Path → ℕ → Delivery → Bool
is_mover tree path time own = is_called time own.ports (leaf_at (seat_behind path own.path) tree)

-- the components and the executives of what stands at a path that move at a time, with what they
-- receive, in the order in which they stand in the tree
abbrev pub movers : System → Sim → Path → ℕ → Ports → List Delivery
movers system tree path time got = filter (is_mover tree path time) (deliveries system tree path time got)

-- Deliveries stand in path order, each path once.
abbrev pub AreInPathOrder : List Delivery → Type 0
AreInPathOrder = IsStrictlySortedBy (on (λ own. own.path) path_cmp)
