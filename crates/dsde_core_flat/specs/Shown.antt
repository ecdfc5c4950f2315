-- The tree that handles show.
use Rattle.std.specs.Prelude.{false, List, [], Option, Some, None}
use Rattle.dsde_bank.specs.declared.handle.Handle.{Handle}
use Rattle.dsde_values.specs.declared.value.Value.{Value}
use Rattle.dsde_values.specs.declared.when.When.TheVariants.{Never}
use Rattle.dsde_language.specs.declared.ids.ModelId.{ModelId}
use Rattle.dsde_sim_tree.specs.given.formalism.leaf_Leaf.{Leaf}
use Rattle.dsde_sim_tree.specs.declared.sim.Kid.{Kid}
use Rattle.dsde_sim_tree.specs.declared.sim.Net.{Net}
use Rattle.dsde_sim_tree.specs.declared.sim.Sim.{Sim}
use Rattle.dsde_sim_tree.specs.declared.sim.Sim.TheVariants as sim
use Rattle.dsde_sim_tree.specs.Start.{kid_of, net_of}
use Rattle.dsde_core_flat.specs.declared.spot.Spot.{Spot}
use Rattle.dsde_core_flat.specs.declared.spot.Spot.TheVariants as spot
use Rattle.dsde_routes_wiring.specs.declared.wiring.Wiring.{Wiring}
use Rattle.dsde_routes_wiring.specs.declared.wiring.WiredKid.{WiredKid}
use Rattle.dsde_routes_wiring.specs.declared.wiring.WiredKid.TheFolds.{fold-Wiring, fold-WiredKid}
use Rattle.dsde_routes_wiring.specs.declared.wiring.WiredKid.TheOpen.{Wiring-F, WiredKid-F}

-- what lies under each handle
abbrev pub Look : Type 0
Look = Handle → Option Spot

-- what shows where no leaf lies
abbrev pub NO_LEAF : Leaf
NO_LEAF = record { model = record { 0 = 0 }; boss = false; args = []; state = []; last = 0; next = Never }

abbrev pub leaf_in : Option Spot → Leaf
leaf_in (Some (spot.Leaf leaf)) = leaf
leaf_in _ = NO_LEAF

abbrev pub model_in : Option Spot → ModelId
model_in (Some (spot.Net model args)) = model
model_in _ = record { 0 = 0 }

abbrev pub args_in : Option Spot → List Value
args_in (Some (spot.Net model args)) = args
args_in _ = []

-- a part by its handle, and by what is beneath it where it is a network
abbrev pub part_step : Look → Handle → Option (Handle → Net) → Sim
part_step look handle None = sim.Leaf (leaf_in (look handle))
part_step look handle (Some net) = sim.Net (net handle)

abbrev pub kid_step : Look → WiredKid-F Kid (Handle → Net) → Kid
kid_step look kid = kid_of kid.name (part_step look kid.handle kid.below)

abbrev pub net_step : Look → Wiring-F Kid (Handle → Net) → Handle → Net
net_step look net handle = net_of (model_in (look handle)) (args_in (look handle)) (leaf_in (look net.boss)) net.kids net.links

-- the network, and the component, that handles show
abbrev pub net_under : Look → Wiring → Handle → Net
net_under look = fold-Wiring Kid (Handle → Net) (kid_step look) (net_step look)

abbrev pub kid_under : Look → WiredKid → Kid
kid_under look = fold-WiredKid Kid (Handle → Net) (kid_step look) (net_step look)

-- the part that a handle shows, with the wiring beneath it where it is a network
abbrev pub part_under : Look → Handle → Option Wiring → Sim
part_under look handle None = sim.Leaf (leaf_in (look handle))
part_under look handle (Some net) = sim.Net (net_under look net handle)
