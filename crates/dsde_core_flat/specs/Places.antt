-- Where the handles of a wiring stand in the tree.
use Rattle.std.specs.Prelude.{Bool, true, false, List, [], ◌∷◌, ◌++◌, Option, Some, None}
use Rattle.std.specs.List.{flat_map}
use Rattle.dsde_bank.specs.declared.handle.Handle.{Handle}
use Rattle.dsde_values.specs.declared.path.Path.{Path}
use Rattle.dsde_sim_tree.specs.Told.{below, to_boss}
use Rattle.dsde_routes_wiring.specs.declared.wiring.Wiring.{Wiring}
use Rattle.dsde_routes_wiring.specs.declared.wiring.WiredKid.{WiredKid}
use Rattle.dsde_routes_wiring.specs.declared.wiring.WiredKid.TheFolds.{fold-Wiring, fold-WiredKid}
use Rattle.dsde_routes_wiring.specs.declared.wiring.WiredKid.TheOpen.{Wiring-F, WiredKid-F}

-- a part of the tree: its handle, its path, and whether it is a network
pub record Place : Type 0 where
  pub handle : Handle
  pub path : Path
  pub is_net : Bool

abbrev pub place : Handle → Path → Bool → Place
place handle path is_net = record { handle = handle; path = path; is_net = is_net }

-- the places of a part, by those beneath it
abbrev pub part_places_step : Handle → Path → Option (Path → List Place) → List Place
part_places_step handle path None = place handle path false ∷ []
part_places_step handle path (Some inner) = place handle path true ∷ inner path

abbrev pub kid_places_step : WiredKid-F (Path → List Place) (Path → List Place) → Path → List Place
kid_places_step kid path = part_places_step kid.handle (below path kid.name) kid.below

abbrev pub net_places_step : Wiring-F (Path → List Place) (Path → List Place) → Path → List Place
net_places_step net path = flat_map (λ kid. kid path) net.kids ++ place net.boss (to_boss path) false ∷ []

-- the places beneath the network at a path, those of a component of it, and those of a part at a path: in the order of paths
abbrev pub net_places : Wiring → Path → List Place
net_places = fold-Wiring (Path → List Place) (Path → List Place) kid_places_step net_places_step

abbrev pub kid_places : WiredKid → Path → List Place
kid_places = fold-WiredKid (Path → List Place) (Path → List Place) kid_places_step net_places_step

abbrev pub part_places : Handle → Path → Option Wiring → List Place
part_places handle path None = place handle path false ∷ []
part_places handle path (Some net) = place handle path true ∷ net_places net path

-- the places of components of a network at a path
abbrev pub places_of : Path → List WiredKid → List Place
places_of path kids = flat_map (λ kid. kid_places kid path) kids
