-- Trees whose components are told apart by their names.
use Rattle.std.specs.Prelude.{◌≢◌, List, [], ◌∷◌}
use Rattle.std.proofs.Common.{inl, inr}
use Rattle.std.specs.List.{AllByRecursion}
use Rattle.dsde_values.specs.Path.{EXEC}
use Rattle.dsde_routes_wiring.specs.given.structure.plan_Entry.{Entry}
use Rattle.dsde_sim_tree.specs.declared.sim.Kid.{Kid}
use Rattle.dsde_sim_tree.specs.declared.sim.Sim.{Sim}
use Rattle.dsde_sim_tree.specs.declared.sim.Sim.TheViews.{out-Kid}
use Rattle.dsde_sim_tree.specs.Spots as tree
use Rattle.dsde_sim_tree.specs.Spots.{spots}

-- no two of these entries have one name, and none has an executive's
abbrev pub AreToldApart : List Entry → Type 0
AreToldApart [] = Unit {0}
AreToldApart (entry ∷ entries) = (EXEC ≢ entry.name) × AllByRecursion (λ (other : Entry). entry.name ≢ other.name) entries × AreToldApart entries

abbrev pub TellsParts : tree.Spot → Type 0
TellsParts (inl leaf) = Unit {0}
TellsParts (inr shape) = AreToldApart shape.entries

-- The components of each network of a tree are told by their names.
pub record HasOwnNames (own : Sim) : Type 0 where
  pub all : AllByRecursion TellsParts (spots own)

abbrev pub KidHasOwnNames : Kid → Type 0
KidHasOwnNames kid = HasOwnNames (out-Kid kid).sim
