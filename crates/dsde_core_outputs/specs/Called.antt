-- Who is called in a turn.
use Rattle.std.specs.Prelude.{◌≡◌, Some}
use Rattle.dsde_syntax.specs.declared.decl.Model.{Model}
use Rattle.dsde_sim_tree.specs.given.formalism.leaf_Leaf.{Leaf}
use Rattle.dsde_sim_working.specs.given.system.Fitting.{FitsInputs}
use Rattle.dsde_grove.specs.Grove.{Grove, value_of}
use Rattle.dsde_core_parcels.specs.given.core_flat.spot_Spot.{Spot}
use Rattle.dsde_core_parcels.specs.given.core_flat.spot_Spot_TheVariants as variant
use Rattle.dsde_core_parcels.specs.given.core_flat.Grafts.{path_at}
use Rattle.dsde_core_parcels.specs.given.core_flat.Shown.{leaf_in}
use Rattle.dsde_core_parcels.specs.given.core_moves.flat_Mover.{Mover}

-- A component or an executive lives under a mover's handle, whose path the mover has.
pub record IsLiveMover (own : Grove Spot) (mover : Mover) : Type 0 where
  pub leaf : Leaf
  pub held : value_of own mover.handle ≡ Some (variant.Leaf leaf)
  pub path : mover.path ≡ path_at own mover.handle

-- What comes to a mover has the types of the in ports of whoever lives under its handle.
abbrev pub IsFit : Model → Grove Spot → Mover → Type 0
IsFit model own mover = FitsInputs model (leaf_in (value_of own mover.handle)).model.0 mover.got
