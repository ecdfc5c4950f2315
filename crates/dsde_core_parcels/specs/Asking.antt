-- Those who are due are asked, one after another.
use Rattle.std.specs.Prelude.{◌≡◌, ℕ, true, Some, Result, Ok, Err}
use Rattle.dsde_bank.specs.declared.handle.Handle.{Handle}
use Rattle.dsde_syntax.specs.declared.decl.Model.{Model}
use Rattle.dsde_sim_tree.specs.given.formalism.leaf_Leaf.{Leaf}
use Rattle.dsde_core_moves.specs.given.system.Fitting.{FitsLeaf}
use Rattle.dsde_core_moves.specs.given.grove.Grove.{Grove, value_of}
use Rattle.dsde_sim_tree.specs.declared.fault.TurnEnd.{TurnEnd}
use Rattle.dsde_core_moves.specs.given.core_flat.spot_Spot.{Spot}
use Rattle.dsde_core_moves.specs.given.core_flat.spot_Spot_TheVariants as variant
use Rattle.dsde_core_moves.specs.given.core_flat.Scheduled.{is_next}
use Rattle.dsde_core_moves.specs.given.core_flat.Shown.{leaf_in}
use Rattle.dsde_core_moves.specs.given.core_flat.due_Due.{Due}
use Rattle.dsde_core_parcels.specs.Traffic.{Sends}

-- how it ends, whatever it comes to
abbrev pub ended : {A : Type 0} → Result A TurnEnd → Result (Unit {0}) TurnEnd
ended (Ok value) = Ok tt
ended (Err end) = Err end

-- Each component and each executive that lives is one of the program.
abbrev pub AllFit : Model → Grove Spot → Type 0
AllFit model own = (handle : Handle) (leaf : Leaf) → value_of own handle ≡ Some (variant.Leaf leaf) → FitsLeaf model leaf

-- A component or an executive lives under the handle that is due.
abbrev pub IsNextAt : Grove Spot → ℕ → Due → Type 0
IsNextAt own time due = is_next (value_of own due.handle) time ≡ true

-- It sends without a fault.
abbrev pub SendsAt : Model → ℕ → Grove Spot → Due → Type 0
SendsAt model time own due = Sends model time (leaf_in (value_of own due.handle))
