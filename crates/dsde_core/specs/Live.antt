-- What is wired is live. This project's profile.
use Rattle.std.specs.Prelude.{Bool, false, Option, Some, None}
use Rattle.std.specs.List.{AllByRecursion}
use Rattle.dsde_bank.specs.declared.handle.Handle.{Handle}
use Rattle.dsde_values.specs.declared.path.Path.{Path}
use Rattle.dsde_grove.specs.Grove.{Grove}
use Rattle.dsde_routes_wiring.specs.declared.wiring.Wiring.{Wiring}
use Rattle.dsde_routes_wiring.specs.declared.wiring.WiredKid.{WiredKid}
use Rattle.dsde_routes_wiring.specs.declared.wiring.WiredKid.TheViews.{out-WiredKid}
use Rattle.dsde_core_moving.specs.given.core_flat.spot_Spot.{Spot}
use Rattle.dsde_core_moving.specs.given.core_flat.Places.{part_places}
use Rattle.dsde_core_moving.specs.given.core_flat.Stands.{is_net, StandsAt}

-- whether a network is held
abbrev pub holds_net : Option Spot → Bool
holds_net (Some held) = is_net held
holds_net None = false

-- A part and all that is wired beneath it are live, each of its kind and with its path.
pub record IsLive (own : Grove Spot) (handle : Handle) (below : Option Wiring) : Type 0 where
  pub path : Path
  pub all : AllByRecursion (StandsAt own) (part_places handle path below)

-- So are a component and all beneath it.
abbrev pub KidIsLive : Grove Spot → WiredKid → Type 0
KidIsLive own kid = IsLive own (out-WiredKid kid).handle (out-WiredKid kid).below
