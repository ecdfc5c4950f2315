-- The movers of a part by its parts.
use Rattle.std.specs.Prelude.{ℕ, ◌||◌, if◌then◌else◌, List, [], ◌∷◌, ◌++◌}
use Rattle.std.specs.List.{flat_map}
use Rattle.dsde_values.specs.declared.path.Path.{Path}
use Rattle.dsde_sim_tree.specs.given.formalism.leaf_Leaf.{Leaf}
use Rattle.dsde_sim_tree.specs.given.formalism.Leaf.{component_of, has_come, is_due}
use Rattle.dsde_sim_tree.specs.given.formalism.System.{Ports, System}
use Rattle.dsde_sim_tree.specs.given.structure.plan_Link.{Link}
use Rattle.dsde_sim_tree.specs.given.structure.plan_Part_TheVariants as part
use Rattle.dsde_sim_tree.specs.given.structure.sources_Sources.{Sources}
use Rattle.dsde_sim_tree.specs.given.structure.Gather.{gathered}
use Rattle.dsde_sim_tree.specs.Told.{below, to_boss}
use Rattle.dsde_sim_tree.specs.declared.sim.Kid.{Kid}
use Rattle.dsde_sim_tree.specs.declared.sim.Net.{Net}
use Rattle.dsde_sim_tree.specs.declared.sim.Sim.TheViews.{out-Kid, out-Net}
use Rattle.dsde_sim_tree.specs.Move.{ins_of}
use Rattle.dsde_sim_tree.specs.Tree.{name_of}
use Rattle.dsde_sim_movers.specs.Deliveries.{Delivery}
use Rattle.dsde_sim_movers.specs.Movers.{movers}

-- a component or an executive, where it is due or something comes to it
abbrev pub called_one : Leaf → Path → ℕ → Ports → List Delivery
called_one leaf path time got =
    if is_due leaf time || has_come got then record { path = path; model = leaf.model; ports = got } ∷ [] else []

-- the movers of a component of the network at a path, whose links carry from these sources
abbrev pub kid_movers : System → List Link → Sources → Path → ℕ → Kid → List Delivery
kid_movers system links sources path time kid =
    movers system (out-Kid kid).sim (below path (name_of kid)) time (gathered system.translate links sources (part.Kid (name_of kid)) (ins_of system (out-Kid kid).sim))

-- those of a network: its components' in the order of their names, and then its executive
abbrev pub net_movers : System → Net → Path → ℕ → Sources → List Delivery
net_movers system net path time sources =
    flat_map (kid_movers system (out-Net net).links sources path time) (out-Net net).kids
    ++ called_one (out-Net net).boss (to_boss path) time (gathered system.translate (out-Net net).links sources part.Boss (component_of system (out-Net net).boss).ins)
