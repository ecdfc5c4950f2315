-- Another part at one place of a tree, and of its wiring.
use Rattle.std.specs.Prelude.{true, false, if◌then◌else◌, List, [], ◌∷◌, ◌++◌, map, Option, Some, None}
use Rattle.std.specs.List.{flat_map}
use Rattle.dsde_bank.specs.declared.handle.Handle.{Handle}
use Rattle.dsde_values.specs.declared.name.Name.{Name}
use Rattle.dsde_values.specs.declared.path.Path.{Path}
use Rattle.dsde_sim_tree.specs.Told.{below, to_boss}
use Rattle.dsde_routes_wiring.specs.given.structure.Gather.{is_same_name}
use Rattle.dsde_routes_wiring.specs.given.structure.plan_Link.{Link}
use Rattle.dsde_sim_tree.specs.declared.sim.Kid.{Kid}
use Rattle.dsde_sim_tree.specs.declared.sim.Net.{Net}
use Rattle.dsde_sim_tree.specs.declared.sim.Sim.{Sim}
use Rattle.dsde_sim_tree.specs.declared.sim.Sim.TheVariants as sim
use Rattle.dsde_sim_tree.specs.declared.sim.Sim.TheOpen as layer
use Rattle.dsde_sim_tree.specs.declared.sim.Sim.TheViews.{out-Sim, out-Kid, out-Net}
use Rattle.dsde_sim_tree.specs.Start.{kid_of, net_of}
use Rattle.dsde_routes_wiring.specs.declared.wiring.Wiring.{Wiring}
use Rattle.dsde_routes_wiring.specs.declared.wiring.WiredKid.{WiredKid}
use Rattle.dsde_routes_wiring.specs.declared.wiring.WiredKid.TheViews.{out-Wiring, out-WiredKid, roll-Wiring, roll-WiredKid}
use Rattle.dsde_core_flat.specs.Places.{Place, place, kid_places}

-- a component, where it has this name, with another part under it
abbrev pub kid_changed : Name → (Sim → Sim) → Kid → Kid
kid_changed name change kid =
    if is_same_name (out-Kid kid).name name then kid_of (out-Kid kid).name (change (out-Kid kid).sim) else kid

-- a network with other components
abbrev pub with_kids : List Kid → Net → Net
with_kids kids net = net_of (out-Net net).model (out-Net net).args (out-Net net).boss kids (out-Net net).links

-- a tree with another part where these names lead
abbrev pub changed_at : List Name → (Sim → Sim) → Sim → Sim
changed_at [] change own = change own
changed_at (name ∷ names) change own = elim (out-Sim own) [
  | layer.Leaf leaf ↦ own
  | layer.Net net ↦ sim.Net (with_kids (map (kid_changed name (changed_at names change)) (out-Net net).kids) net)
]

abbrev pub wired_kid : Name → Handle → Option Wiring → WiredKid
wired_kid name handle own = roll-WiredKid (record { name = name; handle = handle; below = own })

abbrev pub wiring_of : Handle → Handle → List Link → List WiredKid → Wiring
wiring_of me boss links kids = roll-Wiring (record { me = me; boss = boss; links = links; kids = kids })

abbrev pub wired_kid_with : Name → (Option Wiring → Option Wiring) → WiredKid → WiredKid
wired_kid_with name change kid =
    if is_same_name (out-WiredKid kid).name name
    then wired_kid (out-WiredKid kid).name (out-WiredKid kid).handle (change (out-WiredKid kid).below)
    else kid

-- a wiring with another one beneath the part where these names lead
abbrev pub wired_with : List Name → (Option Wiring → Option Wiring) → Option Wiring → Option Wiring
wired_with [] change own = change own
wired_with (name ∷ names) change None = None
wired_with (name ∷ names) change (Some net) =
    Some (wiring_of (out-Wiring net).me (out-Wiring net).boss (out-Wiring net).links (map (wired_kid_with name (wired_with names change)) (out-Wiring net).kids))

-- a part by its handle, with its path, and the wiring beneath it
pub record Standing : Type 0 where
  pub handle : Handle
  pub path : Path
  pub own : Option Wiring

abbrev pub found_kid : Name → (Handle → Path → Option Wiring → List Standing) → Path → WiredKid → List Standing
found_kid name later path kid =
    if is_same_name (out-WiredKid kid).name name
    then later (out-WiredKid kid).handle (below path (out-WiredKid kid).name) (out-WiredKid kid).below
    else []

-- the parts where these names lead
abbrev pub found : List Name → Handle → Path → Option Wiring → List Standing
found [] handle path own = record { handle = handle; path = path; own = own } ∷ []
found (name ∷ names) handle path None = []
found (name ∷ names) handle path (Some net) = flat_map (found_kid name (found names) path) (out-Wiring net).kids

abbrev pub kid_outside : Name → (Handle → Path → Option Wiring → List Place) → Path → WiredKid → List Place
kid_outside name later path kid =
    if is_same_name (out-WiredKid kid).name name
    then later (out-WiredKid kid).handle (below path (out-WiredKid kid).name) (out-WiredKid kid).below
    else kid_places kid path

-- the places of all other parts that are not beneath them
abbrev pub outside : List Name → Handle → Path → Option Wiring → List Place
outside [] handle path own = []
outside (name ∷ names) handle path None = place handle path false ∷ []
outside (name ∷ names) handle path (Some net) =
    place handle path true ∷ (flat_map (kid_outside name (outside names) path) (out-Wiring net).kids ++ place (out-Wiring net).boss (to_boss path) false ∷ [])
