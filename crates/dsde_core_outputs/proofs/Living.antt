-- Those who are due live.
use Rattle.std.proofs.Common.{◌≡◌, ℕ, true, false, List, Option, Some, None, IsSome, refl}
use Rattle.std.specs.List.{AllByRecursion}
use Rattle.dsde_grove.specs.Grove.{Grove, value_of}
use Rattle.dsde_core_parcels.specs.given.routes_pushing.lemmas_Lists.{all-from, contains-from}
use Rattle.dsde_core_parcels.specs.given.core_flat.spot_Spot.{Spot}
use Rattle.dsde_core_parcels.specs.given.core_flat.spot_Spot_TheVariants as variant
use Rattle.dsde_core_parcels.specs.given.core_flat.Scheduled.{held_leaf, is_next}
use Rattle.dsde_core_parcels.specs.given.core_flat.due_Due.{Due}
use Rattle.dsde_core_parcels.specs.given.core_flat.Due.{AreDue}
use Rattle.dsde_core_parcels.specs.Calling.{IsLeafAt}

live-leaf : (held : Option Spot) (time : ℕ) → is_next held time ≡ true → IsSome (held_leaf held)
live-leaf None time next = absurd (let wrong : false ≡ true = next in cc)
live-leaf (Some (variant.Leaf leaf)) time next = refl
live-leaf (Some (variant.Net model args)) time next = absurd (let wrong : false ≡ true = next in cc)

pub each-lives : (own : Grove Spot) (time : ℕ) (list : List Due) → AreDue own time list → AllByRecursion (IsLeafAt own) list
each-lives own time list are =
    all-from (IsLeafAt own) list (λ one there. live-leaf (value_of own one.handle) time ((are.each one).0 (contains-from list one there)).next)
