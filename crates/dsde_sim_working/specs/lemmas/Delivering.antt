-- A tree that fits a program has the components of each network in the order of their names, none of them
-- named as an executive.
use Rattle.std.proofs.Common.{List, [], ◌∷◌, Option, Some, None, IfSome, inl, inr}
use Rattle.std.specs.List.{AllByRecursion}
use Rattle.dsde_syntax.specs.declared.decl.Model.{Model}
use Rattle.dsde_sim_tree.specs.declared.sim.Sim.{Sim}
use Rattle.dsde_sim_tree.specs.Spots.{Spot, spots}
use Rattle.dsde_sim_movers.specs.Places.{HasOrder, IsInOrder}
use Rattle.dsde_sim_moving.specs.Fitting.{FitsSpot, FitsTree}
use Rattle.dsde_sim_movers.specs.Names.{HasNames, IsNamed}
use Rattle.dsde_sim_movers.specs.lemmas.Named.{entries-named}
use Rattle.dsde_sim_working.specs.Working.{StandsIf}

all-in-order : (model : Model) (own : List Spot) → AllByRecursion (FitsSpot model) own → AllByRecursion HasOrder own
all-in-order model [] fits = tt
all-in-order model (inl leaf ∷ own) fits = (tt, all-in-order model own fits.1)
all-in-order model (inr shape ∷ own) fits = (fits.0.links.order, all-in-order model own fits.1)

pub in-order : (model : Model) (own : Option Sim) → StandsIf model own → IfSome own IsInOrder
in-order model (Some tree) stands = all-in-order model (spots tree) stands.fits.all
in-order model None stands = tt

all-named : (model : Model) (own : List Spot) → AllByRecursion (FitsSpot model) own → AllByRecursion HasNames own
all-named model [] fits = tt
all-named model (inl leaf ∷ own) fits = (tt, all-named model own fits.1)
all-named model (inr shape ∷ own) fits = (entries-named shape.entries fits.0.links.order fits.0.links.ordinary, all-named model own fits.1)

pub tree-named : (model : Model) (tree : Sim) → FitsTree model tree → IsNamed tree
tree-named model tree fits = all-named model (spots tree) fits.all
