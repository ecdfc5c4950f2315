-- The handles of a wiring's networks.
use Rattle.std.specs.Prelude.{◌≡◌, List, [], ◌∷◌, Option, Some, None}
use Rattle.std.specs.List.{flat_map, AllByRecursion}
use Rattle.dsde_bank.specs.declared.handle.Handle.{Handle}
use Rattle.dsde_routes_wiring.specs.declared.wiring.Wiring.{Wiring}
use Rattle.dsde_routes_wiring.specs.declared.wiring.WiredKid.{WiredKid}
use Rattle.dsde_routes_wiring.specs.declared.wiring.WiredKid.TheFolds.{fold-Wiring, fold-WiredKid}
use Rattle.dsde_routes_wiring.specs.declared.wiring.WiredKid.TheOpen.{Wiring-F, WiredKid-F}

-- a network by the handle under which it stands and the one that its wiring has
abbrev pub Called : Type 0
Called = Handle × Handle

abbrev pub called_step : Handle → Option (Handle → List Called) → List Called
called_step handle None = []
called_step handle (Some inner) = inner handle

abbrev pub kid_called_step : WiredKid-F (List Called) (Handle → List Called) → List Called
kid_called_step kid = called_step kid.handle kid.below

abbrev pub net_called_step : Wiring-F (List Called) (Handle → List Called) → Handle → List Called
net_called_step net handle = (handle, net.me) ∷ flat_map (λ kid. kid) net.kids

-- the networks of a network that stands under a handle, itself first, of a component and of a part
abbrev pub net_called : Wiring → Handle → List Called
net_called = fold-Wiring (List Called) (Handle → List Called) kid_called_step net_called_step

abbrev pub kid_called : WiredKid → List Called
kid_called = fold-WiredKid (List Called) (Handle → List Called) kid_called_step net_called_step

abbrev pub part_called : Handle → Option Wiring → List Called
part_called handle None = []
part_called handle (Some net) = net_called net handle

abbrev pub IsItself : Called → Type 0
IsItself called = called.0 ≡ called.1

-- Each network of a part has the handle under which it stands.
abbrev pub AreThemselves : Handle → Option Wiring → Type 0
AreThemselves handle own = AllByRecursion IsItself (part_called handle own)

-- So does each network of these components.
abbrev pub KidsAreThemselves : List WiredKid → Type 0
KidsAreThemselves kids = AllByRecursion IsItself (flat_map kid_called kids)
