-- The paths of the parts of a tree, and those that events add and reach.
use Rattle.std.specs.Prelude.{◌≡◌, ◌&&◌, Bool, true, false, List, [], ◌∷◌, ◌++◌}
use Rattle.std.specs.List.{flat_map, filter, AllByRecursion, Contains}
use Rattle.std.proofs.Common.{inl, inr}
use Rattle.dsde_values.specs.declared.name.Name.{Name}
use Rattle.dsde_values.specs.declared.path.Path.{Path}
use Rattle.dsde_values.specs.Path.{root}
use Rattle.dsde_sim_tree.specs.given.structure.Gather.{is_same_name}
use Rattle.dsde_sim_tree.specs.given.structure.Survival as entry
use Rattle.dsde_sim_tree.specs.declared.event.Event.{Event}
use Rattle.dsde_sim_tree.specs.declared.event.Event.TheVariants.{AddNet, AddLeaf, Get, Move}
use Rattle.dsde_sim_tree.specs.Told.{below, to_boss}
use Rattle.dsde_sim_tree.specs.declared.sim.Kid.{Kid}
use Rattle.dsde_sim_tree.specs.declared.sim.Net.{Net}
use Rattle.dsde_sim_tree.specs.declared.sim.Sim.{Sim}
use Rattle.dsde_sim_tree.specs.declared.sim.Sim.TheFolds.{fold-Sim, fold-Kid, fold-Net}
use Rattle.dsde_sim_tree.specs.declared.sim.Sim.TheOpen.{Sim-F, Net-F, Kid-F}
use Rattle.dsde_sim_tree.specs.declared.sim.Sim.TheOpen as layer
use Rattle.dsde_sim_tree.specs.Spots.{Spot, spots}

-- the paths of the parts of what stands at a path
abbrev pub Places : Type 0
Places = Path → List Path

abbrev pub paths_step : Sim-F Places Places Places → Places
paths_step (layer.Leaf leaf) path = path ∷ []
paths_step (layer.Net net) path = net path

abbrev pub paths_kid : Kid-F Places Places Places → Places
paths_kid kid path = kid.sim (below path kid.name)

-- a network, its components in the order of their names with what is beneath them, and its executive
abbrev pub paths_net : Net-F Places Places Places → Places
paths_net net path = path ∷ flat_map (λ kid. kid path) net.kids ++ to_boss path ∷ []

abbrev pub paths_from : Sim → Places
paths_from = fold-Sim Places Places Places paths_step paths_kid paths_net

abbrev pub paths_of_kid : Kid → Places
paths_of_kid = fold-Kid Places Places Places paths_step paths_kid paths_net

abbrev pub paths_of_net : Net → Places
paths_of_net = fold-Net Places Places Places paths_step paths_kid paths_net

-- the paths of the parts of a tree
abbrev pub paths : Sim → List Path
paths tree = paths_from tree root

-- names that begin with these
abbrev pub begin_with : List Name → List Name → Bool
begin_with [] names = true
begin_with (name ∷ front) [] = false
begin_with (name ∷ front) (other ∷ names) = is_same_name name other && begin_with front names

-- the paths of a tree that begin with a path
abbrev pub beneath : Path → Sim → List Path
beneath path tree = filter (λ other. begin_with path.names other.names) (paths tree)

-- the same of the atomic components and the executives alone
abbrev pub leaves_net : Net-F Places Places Places → Places
leaves_net net path = flat_map (λ kid. kid path) net.kids ++ to_boss path ∷ []

abbrev pub leaves_from : Sim → Places
leaves_from = fold-Sim Places Places Places paths_step paths_kid leaves_net

abbrev pub leaves_of_kid : Kid → Places
leaves_of_kid = fold-Kid Places Places Places paths_step paths_kid leaves_net

abbrev pub leaves_of_net : Net → Places
leaves_of_net = fold-Net Places Places Places paths_step paths_kid leaves_net

-- a network has its components in the order of their names, each name once
abbrev pub HasOrder : Spot → Type 0
HasOrder (inl leaf) = Unit {0}
HasOrder (inr shape) = entry.IsInOrder shape.entries

-- so has each network of a tree
abbrev pub IsInOrder : Sim → Type 0
IsInOrder tree = AllByRecursion HasOrder (spots tree)

-- the part that an event adds
abbrev pub added : Event → List Path
added (AddNet path model) = path ∷ []
added (AddLeaf path model state next) = path ∷ []
added _ = []

-- the component or the executive that receives or moves in an event
abbrev pub reached : Event → List Path
reached (Get path model port value) = path ∷ []
reached (Move path model kind state next) = path ∷ []
reached _ = []

-- Events reach only these parts.
abbrev pub ReachOnly : List Path → List Event → Type 0
ReachOnly places events = (path : Path) → Contains (flat_map reached events) path → Contains places path

-- After a part was added no event reaches it.
abbrev pub ReachNoneAdded : List Event → Type 0
ReachNoneAdded events =
    (before after : List Event) (path : Path) → events ≡ before ++ after → Contains (flat_map added before) path → Contains (flat_map reached after) path → ⊥
