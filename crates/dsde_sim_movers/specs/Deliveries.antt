-- What the links of a tree carry to its components and executives in a turn, before any of them moves.
use Rattle.std.specs.Prelude.{ℕ, ◌==◌, ◌&&◌, if◌then◌else◌, slice_index_or, Bool, true, false, List, [], ◌∷◌, ◌++◌, map, Ok, Err}
use Rattle.std.specs.List.{flat_map}
use Rattle.std.specs.Ordering.{eq_by_cmp}
use Rattle.dsde_values.specs.declared.name.Name.{Name}
use Rattle.dsde_values.specs.declared.path.Path.{Path}
use Rattle.dsde_values.specs.declared.value.Value.{Value}
use Rattle.dsde_values.specs.Path.{path_cmp, root}
use Rattle.dsde_sim_tree.specs.given.language.ids_ModelId.{ModelId}
use Rattle.dsde_sim_tree.specs.given.formalism.leaf_Leaf.{Leaf}
use Rattle.dsde_sim_tree.specs.given.formalism.System.{System, Ports}
use Rattle.dsde_sim_tree.specs.given.formalism.Leaf.{component_of}
use Rattle.dsde_sim_tree.specs.given.structure.plan_Link.{Link}
use Rattle.dsde_sim_tree.specs.given.structure.plan_Part_TheVariants as part
use Rattle.dsde_sim_tree.specs.given.structure.sources_Sources.{Sources}
use Rattle.dsde_sim_tree.specs.given.structure.Gather.{gathered}
use Rattle.dsde_sim_tree.specs.declared.event.Event.{Event}
use Rattle.dsde_sim_tree.specs.declared.event.Event.TheVariants.{Get}
use Rattle.dsde_sim_tree.specs.Told.{below, to_boss}
use Rattle.dsde_sim_tree.specs.declared.sim.Kid.{Kid}
use Rattle.dsde_sim_tree.specs.declared.sim.Net.{Net}
use Rattle.dsde_sim_tree.specs.declared.sim.Sim.{Sim}
use Rattle.dsde_sim_tree.specs.declared.sim.Sim.TheFolds.{para-Sim, para-Kid, para-Net}
use Rattle.dsde_sim_tree.specs.declared.sim.Sim.TheOpen.{Sim-F, Net-F, Kid-F}
use Rattle.dsde_sim_tree.specs.declared.sim.Sim.TheOpen as layer
use Rattle.dsde_sim_tree.specs.Output.{KidAnswer, sources_of, kid_output}
use Rattle.dsde_sim_tree.specs.Move.{gets_from, ins_of}

-- what a component or an executive receives in a turn, port by port
pub record Delivery : Type 0 where
  pub path : Path
  pub model : ModelId
  pub ports : Ports

-- what a part at a path receives at a time, and all beneath it, where this comes to the part itself
abbrev pub Receives : Type 0
Receives = Path → ℕ → Ports → List Delivery

-- the same of a component of the network at a path, whose links carry from these sources
abbrev pub KidReceives : Type 0
KidReceives = Path → ℕ → List Link → Sources → List Delivery

abbrev pub receive_step : Sim-F (Sim × Receives) (Kid × KidReceives) (Net × Receives) → Receives
receive_step (layer.Leaf leaf) path time got = record { path = path; model = leaf.model; ports = got } ∷ []
receive_step (layer.Net net) path time got = net.1 path time got

-- what links carry to the component of this name, and beneath it
abbrev pub received_kid : System → Name → Sim → Receives → KidReceives
received_kid system name own receives path time links sources =
    receives (below path name) time (gathered system.translate links sources (part.Kid name) (ins_of system own))

abbrev pub receive_kid : System → Kid-F (Sim × Receives) (Kid × KidReceives) (Net × Receives) → KidReceives
receive_kid system kid = received_kid system kid.name kid.sim.0 kid.sim.1

-- what links carry to the components of a network, and then to its executive
abbrev pub shared : System → Leaf → List KidReceives → List Link → Path → ℕ → Sources → List Delivery
shared system boss kids links path time sources =
    flat_map (λ kid. kid path time links sources) kids
    ++ record { path = to_boss path; model = boss.model; ports = gathered system.translate links sources part.Boss (component_of system boss).ins } ∷ []

-- Links carry what came to the network, and what its components and its executive answer to an output
-- message. After a fault of an answer nothing is carried.
abbrev pub received_net : System → Leaf → List KidAnswer → List KidReceives → List Link → Receives
received_net system boss answers kids links path time got = elim (sources_of system answers boss path time got) [
  | Ok sources ↦ shared system boss kids links path time sources
  | Err end ↦ []
]

abbrev pub receive_net : System → Net-F (Sim × Receives) (Kid × KidReceives) (Net × Receives) → Receives
receive_net system net =
    received_net system net.boss (map (λ kid. kid_output system kid.0) net.kids) (map (λ kid. kid.1) net.kids) net.links

-- what the components and the executives of what stands at a path receive, in the order of their moves
abbrev pub deliveries : System → Sim → Receives
deliveries system = para-Sim Receives KidReceives Receives receive_step (receive_kid system) (receive_net system)

abbrev pub deliveries_of_kid : System → Kid → KidReceives
deliveries_of_kid system = para-Kid Receives KidReceives Receives receive_step (receive_kid system) (receive_net system)

abbrev pub deliveries_of_net : System → Net → Receives
deliveries_of_net system = para-Net Receives KidReceives Receives receive_step (receive_kid system) (receive_net system)

-- whether two paths are the same
abbrev pub is_same_path : Path → Path → Bool
is_same_path = eq_by_cmp path_cmp

-- the values that a delivery has for a port of the component at a path
abbrev pub meant : Path → ℕ → Delivery → List Value
meant path port delivery = if is_same_path delivery.path path then slice_index_or delivery.ports port [] else []

-- What the component or the executive at a path receives at a port in a turn, where this comes to the
-- root: what the links of the tree carry there, followed down from the root.
abbrev pub received : System → Sim → Path → ℕ → ℕ → Ports → List Value
received system tree path port time got = flat_map (meant path port) (deliveries system tree root time got)

-- the values that an event brings to a port of the component at a path
abbrev pub brought : Path → ℕ → Event → List Value
brought path port (Get at model number value) = if is_same_path at path && number == port then value ∷ [] else []
brought path port _ = []

abbrev pub is_get : Event → Bool
is_get (Get path model port value) = true
is_get _ = false

-- the get events of a delivery
abbrev pub gets_of : Delivery → List Event
gets_of delivery = gets_from delivery.path delivery.model 0 delivery.ports
