-- Which routes a change of a network touches.
use Rattle.std.specs.Prelude.{◌||◌, not, Bool, List, [], ◌∷◌, Option, Some, None}
use Rattle.std.specs.List.{flat_map, list_any}
use Rattle.dsde_bank.specs.declared.handle.Handle.{Handle}
use Rattle.dsde_routes_wiring.specs.declared.wiring.WiredKid.{WiredKid}
use Rattle.dsde_routes_wiring.specs.declared.wiring.Wiring.{Wiring}
use Rattle.dsde_routes_wiring.specs.declared.wiring.WiredKid.TheFolds.{fold-Wiring, fold-WiredKid}
use Rattle.dsde_routes_wiring.specs.declared.wiring.WiredKid.TheOpen.{Wiring-F, WiredKid-F}
use Rattle.dsde_routes_wiring.specs.Wired.{is_same_handle}
use Rattle.dsde_routes_wiring.specs.Routes.{Step, Route}

-- the handles of a network and all beneath it
abbrev pub below_handles : Handle → Option (List Handle) → List Handle
below_handles handle None = handle ∷ []
below_handles handle (Some handles) = handles

abbrev pub kid_handles : WiredKid-F (List Handle) (List Handle) → List Handle
kid_handles kid = below_handles kid.handle kid.below

abbrev pub net_handles : Wiring-F (List Handle) (List Handle) → List Handle
net_handles net = net.me ∷ net.boss ∷ flat_map (λ handles. handles) net.kids

abbrev pub handles_of : Wiring → List Handle
handles_of = fold-Wiring (List Handle) (List Handle) kid_handles net_handles

abbrev pub handles_of_kid : WiredKid → List Handle
handles_of_kid = fold-WiredKid (List Handle) (List Handle) kid_handles net_handles

abbrev pub knows : List Handle → Handle → Bool
knows handles handle = list_any (is_same_handle handle) handles

-- a route over a link of this network
abbrev pub passes : Handle → List Step → Bool
passes net steps = list_any (λ step. is_same_handle step.net net) steps

abbrev pub uses : Handle → Route → Bool
uses net route = passes net route.steps

-- a route over a link of the changed network, or with a source or a target that the other wiring lacks
abbrev pub is_touched : Handle → List Handle → Route → Bool
is_touched net others route = uses net route || not (knows others route.source) || not (knows others route.target)
