-- The components of a tree that fits a program are told by their names.
use Rattle.std.proofs.Common.{List, [], ◌∷◌, inl, inr}
use Rattle.std.specs.List.{AllByRecursion}
use Rattle.dsde_syntax.specs.declared.decl.Model.{Model}
use Rattle.dsde_sim_tree.specs.declared.sim.Kid.{Kid}
use Rattle.dsde_sim_tree.specs.declared.sim.Sim.{Sim}
use Rattle.dsde_sim_tree.specs.declared.sim.Sim.TheViews.{out-Kid}
use Rattle.dsde_sim_tree.specs.Spots.{Spot, spots}
use Rattle.dsde_sim_starting.specs.Fitting.{FitsKid, FitsSpot, FitsTree}
use Rattle.dsde_sim_starting.specs.lemmas.Fits.{kid-tree}
use Rattle.dsde_sim_movers.specs.Names.{HasNames, IsNamed}
use Rattle.dsde_sim_movers.specs.lemmas.Named.{entries-named}
use Rattle.dsde_core_flat.specs.Named.{KidHasOwnNames}
use Rattle.dsde_core_flat.specs.lemmas.Meeting.{tree-names}

all-named : (model : Model) (own : List Spot) → AllByRecursion (FitsSpot model) own → AllByRecursion HasNames own
all-named model [] fits = tt
all-named model (inl leaf ∷ own) fits = (tt, all-named model own fits.1)
all-named model (inr shape ∷ own) fits = (entries-named shape.entries fits.0.links.order fits.0.links.ordinary, all-named model own fits.1)

pub tree-named : (model : Model) (tree : Sim) → FitsTree model tree → IsNamed tree
tree-named model tree fits = all-named model (spots tree) fits.all

pub kids-own-names : (model : Model) (kids : List Kid) → AllByRecursion (FitsKid model) kids → AllByRecursion KidHasOwnNames kids
kids-own-names model [] fits = tt
kids-own-names model (kid ∷ kids) fits = (tree-names (out-Kid kid).sim (tree-named model (out-Kid kid).sim (kid-tree model kid fits.0)), kids-own-names model kids fits.1)
