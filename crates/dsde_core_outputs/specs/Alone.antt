-- An atomic component that is the whole model, where it lies. This project's profile.
use Rattle.std.specs.Prelude.{◌≡◌, ◌||◌, ℕ, if◌then◌else◌, List, [], ◌∷◌, Some, IsNone}
use Rattle.dsde_bank.specs.declared.handle.Handle.{Handle}
use Rattle.dsde_values.specs.declared.path.Path.{Path}
use Rattle.dsde_sim_tree.specs.given.formalism.leaf_Leaf.{Leaf}
use Rattle.dsde_sim_tree.specs.given.formalism.Leaf.{has_come, is_due}
use Rattle.dsde_sim_tree.specs.given.formalism.System.{Ports}
use Rattle.dsde_grove.specs.Grove.{value_of}
use Rattle.dsde_core_parcels.specs.given.core_flat.spot_Spot_TheVariants as variant
use Rattle.dsde_core_parcels.specs.given.core_moves.flat_Flat.{Flat}
use Rattle.dsde_core_parcels.specs.given.core_moves.flat_Mover.{Mover}

-- This component lies under the root's handle, and nothing is wired.
pub record IsAlone (flat : Flat) (leaf : Leaf) : Type 0 where
  pub none : IsNone flat.wiring
  pub held : value_of flat.grove flat.root ≡ Some (variant.Leaf leaf)

-- a component under a handle with its path, if it is due or this came to it
abbrev pub one_called : Leaf → Handle → Path → ℕ → Ports → List Mover
one_called leaf handle path time got =
    if is_due leaf time || has_come got then record { handle = handle; path = path; model = leaf.model; got = got } ∷ [] else []
