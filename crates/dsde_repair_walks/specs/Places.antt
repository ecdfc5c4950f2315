-- Components with something below them.
use Rattle.std.specs.Prelude.{Option, Some, None, List}
use Rattle.dsde_values.specs.declared.name.Name.{Name}
use Rattle.dsde_routes_wiring.specs.declared.wiring.WiredKid.{WiredKid}
use Rattle.dsde_routes_wiring.specs.declared.wiring.Wiring.{Wiring}
use Rattle.dsde_routes_wiring.specs.declared.wiring.WiredKid.TheViews.{out-WiredKid, roll-WiredKid}
use Rattle.dsde_routes_wiring.specs.Places.{below_changed, below_at, kids_at}
use Rattle.dsde_routes_wiring.specs.Wired.{AreWired}

abbrev pub BelowWired : Option Wiring → Type 0
BelowWired None = Unit {0}
BelowWired (Some wiring) = AreWired wiring

abbrev pub IsBelowWired : WiredKid → Type 0
IsBelowWired kid = BelowWired (out-WiredKid kid).below

abbrev pub kid_with : (Wiring → Wiring) → WiredKid → WiredKid
kid_with change kid = roll-WiredKid (record (out-WiredKid kid) { below = below_changed change (out-WiredKid kid).below })

-- a component with this network below it
abbrev pub with_below : Wiring → WiredKid → WiredKid
with_below net kid = roll-WiredKid (record (out-WiredKid kid) { below = Some net })

abbrev pub kids_below : List Name → WiredKid → List WiredKid
kids_below place kid = below_at (kids_at place) (out-WiredKid kid).below
