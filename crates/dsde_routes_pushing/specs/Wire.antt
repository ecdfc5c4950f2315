-- The wiring of a tree, and the traffic that its links carry at one time.
use Rattle.std.specs.Prelude.{◌≡◌, ◌⊎◌, ℕ, List, [], ◌∷◌, ◌++◌, map, Option, Some, None, Ok}
use Rattle.std.proofs.Common.{inl, inr}
use Rattle.std.specs.List.{flat_map, AllByRecursion}
use Rattle.dsde_bank.specs.declared.handle.Handle.{Handle}
use Rattle.dsde_values.specs.declared.path.Path.{Path}
use Rattle.dsde_values.specs.declared.value.Value.{Value}
use Rattle.dsde_sim_movers.specs.given.language.ids_ModelId.{ModelId}
use Rattle.dsde_sim_movers.specs.given.formalism.leaf_Leaf.{Leaf}
use Rattle.dsde_sim_movers.specs.given.formalism.System.{System}
use Rattle.dsde_sim_movers.specs.given.formalism.Leaf.{component_of}
use Rattle.dsde_sim_movers.specs.given.sim_tree.Told.{below, to_boss}
use Rattle.dsde_sim_movers.specs.given.sim_tree.sim_Kid.{Kid}
use Rattle.dsde_sim_movers.specs.given.sim_tree.sim_Net.{Net}
use Rattle.dsde_sim_movers.specs.given.sim_tree.sim_Sim.{Sim}
use Rattle.dsde_sim_movers.specs.given.sim_tree.sim_Sim_TheFolds.{fold-Sim, fold-Kid, fold-Net}
use Rattle.dsde_sim_movers.specs.given.sim_tree.sim_Sim_TheOpen.{Sim-F, Net-F, Kid-F}
use Rattle.dsde_sim_movers.specs.given.sim_tree.sim_Sim_TheOpen as layer
use Rattle.dsde_sim_movers.specs.given.sim_tree.Output.{sent}
use Rattle.dsde_sim_movers.specs.Deliveries as tree
use Rattle.dsde_routes_wiring.specs.declared.wiring.Wiring.{Wiring}
use Rattle.dsde_routes_wiring.specs.declared.wiring.WiredKid.{WiredKid}
use Rattle.dsde_routes_wiring.specs.declared.wiring.WiredKid.TheViews.{roll-Wiring, roll-WiredKid}
use Rattle.dsde_routes_pushing.specs.Carried.{Traffic, Delivery}

-- the wiring of a part at a path, if it is a network, of a component and of a network
abbrev pub Wired : Type 0
Wired = Path → Option Wiring

abbrev pub WiredAt : Type 0
WiredAt = Path → WiredKid

abbrev pub NetWired : Type 0
NetWired = Path → Wiring

module _ (handle : Path → Handle) where
  abbrev pub wire_step : Sim-F Wired WiredAt NetWired → Wired
  wire_step (layer.Leaf leaf) path = None
  wire_step (layer.Net net) path = Some (net path)

  abbrev pub wire_kid : Kid-F Wired WiredAt NetWired → WiredAt
  wire_kid kid path = roll-WiredKid (record { name = kid.name; handle = handle (below path kid.name); below = kid.sim (below path kid.name) })

  abbrev pub wire_net : Net-F Wired WiredAt NetWired → NetWired
  wire_net net path = roll-Wiring (record { me = handle path; boss = handle (to_boss path); links = net.links; kids = map (λ kid. kid path) net.kids })

  abbrev pub wired : Sim → Wired
  wired = fold-Sim Wired WiredAt NetWired wire_step wire_kid wire_net

  abbrev pub wired_kid : Kid → WiredAt
  wired_kid = fold-Kid Wired WiredAt NetWired wire_step wire_kid wire_net

  abbrev pub wired_net : Net → NetWired
  wired_net = fold-Net Wired WiredAt NetWired wire_step wire_kid wire_net

  -- a delivery, by its handle
  abbrev pub handed : tree.Delivery → Delivery
  handed delivery = record { part = handle delivery.path; ports = delivery.ports }

-- what stands at a path: a component or an executive, or a network by its model and arguments
pub record Place : Type 0 where
  pub path : Path
  pub what : Leaf ⊎ (ModelId × List Value)

abbrev pub Places : Type 0
Places = Path → List Place

abbrev pub place_step : Sim-F Places Places Places → Places
place_step (layer.Leaf leaf) path = record { path = path; what = inl leaf } ∷ []
place_step (layer.Net net) path = net path

abbrev pub place_kid : Kid-F Places Places Places → Places
place_kid kid path = kid.sim (below path kid.name)

abbrev pub place_net : Net-F Places Places Places → Places
place_net net path =
    record { path = path; what = inr (net.model, net.args) } ∷ flat_map (λ kid. kid path) net.kids ++ record { path = to_boss path; what = inl net.boss } ∷ []

abbrev pub places : Sim → Places
places = fold-Sim Places Places Places place_step place_kid place_net

abbrev pub places_of_kid : Kid → Places
places_of_kid = fold-Kid Places Places Places place_step place_kid place_net

abbrev pub places_of_net : Net → Places
places_of_net = fold-Net Places Places Places place_step place_kid place_net

-- the traffic has the ports of what stands there, and what it sends at a time
abbrev pub IsOf : System → (Path → Handle) → ℕ → Traffic → Place → Type 0
IsOf system handle time traffic place = elim place.what [
  | inl leaf ↦ (sent system leaf time ≡ Ok (traffic.sent (handle place.path))) × (traffic.ins (handle place.path) ≡ (component_of system leaf).ins)
  | inr net ↦ (traffic.ins (handle place.path) ≡ (system.network net.0 net.1).ins) × (traffic.outs (handle place.path) ≡ (system.network net.0 net.1).outs)
]

-- it is that of a tree at a time
pub record IsTrafficOf (system : System) (handle : Path → Handle) (time : ℕ) (traffic : Traffic) (tree : Sim) (path : Path) : Type 0 where
  pub translate : traffic.translate ≡ system.translate
  pub each : AllByRecursion (IsOf system handle time traffic) (places tree path)
