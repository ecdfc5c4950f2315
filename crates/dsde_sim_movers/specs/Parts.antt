-- The part of a tree that stands behind some names, and the tree with another part in its place.
use Rattle.std.specs.Prelude.{Bool, true, false, if◌then◌else◌, List, [], ◌∷◌, Option, Some, None, option_and_then}
use Rattle.dsde_values.specs.declared.name.Name.{Name}
use Rattle.dsde_sim_tree.specs.given.structure.Gather.{is_same_name}
use Rattle.dsde_sim_tree.specs.declared.sim.Kid.{Kid}
use Rattle.dsde_sim_tree.specs.declared.sim.Net.{Net}
use Rattle.dsde_sim_tree.specs.declared.sim.Sim.{Sim}
use Rattle.dsde_sim_tree.specs.declared.sim.Sim.TheVariants as sim
use Rattle.dsde_sim_tree.specs.declared.sim.Sim.TheOpen as layer
use Rattle.dsde_sim_tree.specs.declared.sim.Sim.TheOpen.{Sim-F}
use Rattle.dsde_sim_tree.specs.declared.sim.Sim.TheViews.{out-Sim, out-Kid, out-Net}
use Rattle.dsde_sim_tree.specs.Start.{kid_of, net_of}

-- the component of this name
abbrev pub kid_named : Name → List Kid → Option Sim
kid_named name [] = None
kid_named name (kid ∷ kids) =
    if is_same_name (out-Kid kid).name name then Some (out-Kid kid).sim else kid_named name kids

-- components, of which the one of this name is changed
abbrev pub with_named : Name → (Sim → Sim) → List Kid → List Kid
with_named name change [] = []
with_named name change (kid ∷ kids) =
    if is_same_name (out-Kid kid).name name
    then kid_of (out-Kid kid).name (change (out-Kid kid).sim) ∷ kids
    else kid ∷ with_named name change kids

-- a network with other components
abbrev pub with_kids : Net → List Kid → Sim
with_kids net kids = sim.Net (net_of (out-Net net).model (out-Net net).args (out-Net net).boss kids (out-Net net).links)

abbrev pub part_in : Name → (Sim → Option Sim) → Sim-F Sim Kid Net → Option Sim
part_in name found (layer.Leaf leaf) = None
part_in name found (layer.Net net) = option_and_then found (kid_named name (out-Net net).kids)

-- the part that stands behind these names
abbrev pub part_at : List Name → Sim → Option Sim
part_at [] tree = Some tree
part_at (name ∷ names) tree = part_in name (part_at names) (out-Sim tree)

abbrev pub with_in : Name → (Sim → Sim) → Sim → Sim-F Sim Kid Net → Sim
with_in name change tree (layer.Leaf leaf) = tree
with_in name change tree (layer.Net net) = with_kids net (with_named name change (out-Net net).kids)

-- the tree with this part behind these names
abbrev pub with_part : List Name → Sim → Sim → Sim
with_part [] own tree = own
with_part (name ∷ names) own tree = with_in name (with_part names own) tree (out-Sim tree)

-- Neither leads to a part of what the other leads to: somewhere their names differ.
abbrev pub are_apart : List Name → List Name → Bool
are_apart [] others = false
are_apart (name ∷ names) [] = false
are_apart (name ∷ names) (other ∷ others) = if is_same_name name other then are_apart names others else true
