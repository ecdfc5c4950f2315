-- A flat state stands for a tree.
use Rattle.std.specs.Prelude.{◌≡◌, ◌⊎◌, ℕ, ◌≤◌, Bool, true, false, List, [], ◌∷◌, ◌++◌, Option, Some}
use Rattle.std.specs.List.{AllByRecursion}
use Rattle.std.specs.FinMap as map
use Rattle.dsde_bank.specs.declared.handle.Handle.{Handle}
use Rattle.dsde_values.specs.declared.name.Name.{Name}
use Rattle.dsde_values.specs.declared.path.Path.{Path}
use Rattle.dsde_values.specs.Path.{root}
use Rattle.dsde_grove.specs.Grove as grove
use Rattle.dsde_grove.specs.Grove.{Grove, spot, value_of, depth_of}
use Rattle.dsde_sim_tree.specs.declared.sim.Sim.{Sim}
use Rattle.dsde_sim_tree.specs.declared.sim.TheConstants.{DEEPEST}
use Rattle.dsde_core_flat.specs.declared.spot.Spot.{Spot}
use Rattle.dsde_core_flat.specs.declared.spot.Spot.TheVariants as variant
use Rattle.dsde_routes_wiring.specs.declared.wiring.Wiring.{Wiring}
use Rattle.dsde_sim_tree.specs.Told.{to_boss}
use Rattle.dsde_routes_wiring.specs.declared.wiring.WiredKid.{WiredKid}
use Rattle.dsde_core_flat.specs.Shown.{part_under}
use Rattle.dsde_core_flat.specs.Handles.{AreThemselves, KidsAreThemselves}
use Rattle.dsde_core_flat.specs.Places.{Place, place, part_places, places_of}

abbrev pub is_net : Spot → Bool
is_net (variant.Leaf leaf) = false
is_net (variant.Net model args) = true

-- A part is live under the handle of a place, with its path and of its kind.
pub record StandsAt (own : Grove Spot) (at : Place) : Type 0 where
  pub part : grove.Spot Spot
  pub live : spot own at.handle ≡ Some part
  pub path : part.path ≡ at.path.names
  pub kind : is_net part.value ≡ at.is_net

-- One of these places has the handle of this birth.
abbrev pub HasBirth : ℕ → List Place → Type 0
HasBirth birth [] = ⊥
HasBirth birth (at ∷ others) = (at.handle.birth ≡ birth) ⊎ HasBirth birth others

-- The grove and the wiring show the tree: under the handles of the wiring lie its parts, each with its path,
-- and nothing else is live; and each network of the wiring has its own handle.
pub record StandsFor (own : Grove Spot) (top : Handle) (wiring : Option Wiring) (tree : Sim) : Type 0 where
  pub shows : part_under (value_of own) top wiring ≡ tree
  pub itself : AreThemselves top wiring
  pub live : AllByRecursion (StandsAt own) (part_places top root wiring)
  pub only : (birth : ℕ) (part : grove.Spot Spot) → map.get own.parts birth ≡ Some part → HasBirth birth (part_places top root wiring)

-- names lead to a path, or above it
pub record Leads (names path : List Name) : Type 0 where
  pub rest : List Name
  pub is : path ≡ names ++ rest

-- Only what lies beneath these names changes.
pub record ChangesBeneath (names : List Name) (old new : Grove Spot) : Type 0 where
  pub kept : (birth : ℕ) (part : grove.Spot Spot) → map.get old.parts birth ≡ Some part → ¬ Leads names part.path → map.get new.parts birth ≡ Some part
  pub only : (birth : ℕ) (part : grove.Spot Spot) → map.get new.parts birth ≡ Some part → ¬ Leads names part.path → map.get old.parts birth ≡ Some part

-- At a path and beneath it live a network, its executive, these components and what is beneath them, and
-- nothing else; and each network beneath has its own handle.
pub record NetStands (own : Grove Spot) (handle last : Handle) (path : Path) (kids : List WiredKid) : Type 0 where
  pub itself : StandsAt own (place handle path true)
  pub executive : StandsAt own (place last (to_boss path) false)
  pub components : AllByRecursion (StandsAt own) (places_of path kids)
  pub themselves : KidsAreThemselves kids
  pub only : (birth : ℕ) (part : grove.Spot Spot) → map.get own.parts birth ≡ Some part → Leads path.names part.path →
      (handle.birth ≡ birth) ⊎ ((last.birth ≡ birth) ⊎ HasBirth birth (places_of path kids))

-- No path has too many names.
abbrev pub IsShallow : Grove Spot → Type 0
IsShallow own = (handle : Handle) → depth_of own handle ≤ DEEPEST
