-- A tree that is put into a grove, below a part that is live.
use Rattle.std.proofs.Common.{◌≡◌, ◌⊎◌, ℕ, ◌+◌, ◌≤◌, List, [], map, Some}
use Rattle.std.specs.Option.{option_map_or}
use Rattle.std.specs.List.{flat_map, AllByRecursion}
use Rattle.std.specs.FinMap as map
use Rattle.dsde_bank.specs.declared.handle.Handle.{Handle}
use Rattle.dsde_values.specs.declared.name.Name.{Name}
use Rattle.dsde_values.specs.declared.path.Path.{Path}
use Rattle.dsde_sim_tree.specs.Told.{below}
use Rattle.dsde_grove.specs.Grove as grove
use Rattle.dsde_grove.specs.Grove.{Grove, IsTree, spot, value_of}
use Rattle.dsde_sim_tree.specs.declared.sim.Kid.{Kid}
use Rattle.dsde_sim_tree.specs.declared.sim.Sim.TheViews.{out-Kid}
use Rattle.dsde_sim_tree.specs.Tree.{parts_of_kids}
use Rattle.dsde_core_flat.specs.declared.spot.Spot.{Spot}
use Rattle.dsde_routes_wiring.specs.declared.wiring.WiredKid.{WiredKid}
use Rattle.dsde_core_flat.specs.Shown.{kid_under}
use Rattle.dsde_core_flat.specs.Handles.{KidsAreThemselves}
use Rattle.dsde_core_flat.specs.Places.{kid_places}
use Rattle.dsde_core_flat.specs.Stands.{StandsAt, HasBirth, Leads}

-- the path of a live part
abbrev pub path_at : Grove Spot → Handle → Path
path_at own handle = record { names = option_map_or (λ part. part.path) (spot own handle) [] }

-- No part that is live has a path beneath these names.
abbrev pub IsFree : Grove Spot → List Name → Type 0
IsFree own names = (birth : ℕ) (part : grove.Spot Spot) → map.get own.parts birth ≡ Some part → ¬ Leads names part.path

-- A component may grow below the part at a path.
abbrev pub IsRoomFor : Grove Spot → Path → Kid → Type 0
IsRoomFor own path kid = IsFree own (below path (out-Kid kid).name).names

-- What is new in a grove are components of a network at a path, of which each network has its own handle, all
-- born after what was there; what was live is as it was.
pub record AreGrafted (old new : Grove Spot) (path : Path) (own : List Kid) (kids : List WiredKid) : Type 0 where
  pub shows : map (kid_under (value_of new)) kids ≡ own
  pub themselves : KidsAreThemselves kids
  pub live : AllByRecursion (StandsAt new) (flat_map (λ kid. kid_places kid path) kids)
  pub kept : (birth : ℕ) (part : grove.Spot Spot) → map.get old.parts birth ≡ Some part → map.get new.parts birth ≡ Some part
  pub only : (birth : ℕ) (part : grove.Spot Spot) → map.get new.parts birth ≡ Some part → (map.get old.parts birth ≡ Some part) ⊎ HasBirth birth (flat_map (λ kid. kid_places kid path) kids)
  pub next : new.next_birth ≡ old.next_birth + parts_of_kids own
  pub young : (birth : ℕ) → HasBirth birth (flat_map (λ kid. kid_places kid path) kids) → old.next_birth ≤ birth
