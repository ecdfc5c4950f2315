-- A tree fits where its parts do.
use Rattle.std.proofs.Common.{◌++◌, List, [], ◌∷◌, sym, subst}
use Rattle.std.specs.List.{flat_map, AllByRecursion}
use Rattle.dsde_language.specs.given.syntax.decl_Model.{Model}
use Rattle.dsde_sim_tree.specs.given.formalism.leaf_Leaf.{Leaf}
use Rattle.dsde_sim_tree.specs.declared.sim.Kid.{Kid}
use Rattle.dsde_sim_tree.specs.declared.sim.Net.{Net}
use Rattle.dsde_sim_tree.specs.declared.sim.Sim.TheVariants as sim
use Rattle.dsde_sim_tree.specs.declared.sim.Sim.TheViews.{out-Kid, out-Net}
use Rattle.dsde_sim_tree.specs.Spots.{Spot, spots_of_kid}
use Rattle.dsde_sim_tree.specs.Opened.{shape_in, spots-Leaf, spots-Net, spots-kid, spots-net}
use Rattle.dsde_sim_starting.specs.Fitting.{FitsAtomic, FitsShape, FitsSpot, FitsTree, FitsKid, FitsNet}

-- what holds of all of two lists, and of each
all-append : {T : Type 0} (P : T → Type 0) (xs ys : List T) → AllByRecursion P xs → AllByRecursion P ys → AllByRecursion P (xs ++ ys)
all-append P [] ys first second = second
all-append P (x ∷ xs) ys first second = (first.0, all-append P xs ys first.1 second)

all-left : {T : Type 0} (P : T → Type 0) (xs ys : List T) → AllByRecursion P (xs ++ ys) → AllByRecursion P xs
all-left P [] ys all = tt
all-left P (x ∷ xs) ys all = (all.0, all-left P xs ys all.1)

all-right : {T : Type 0} (P : T → Type 0) (xs ys : List T) → AllByRecursion P (xs ++ ys) → AllByRecursion P ys
all-right P [] ys all = all
all-right P (x ∷ xs) ys all = all-right P xs ys all.1

module _ (model : Model) where
  abbrev Holds : List Spot → Type 0
  Holds = AllByRecursion (FitsSpot model)

  -- an atomic component
  pub tree-leaf : (leaf : Leaf) → FitsAtomic model leaf → FitsTree model (sim.Leaf leaf)
  tree-leaf leaf fits = record { all = subst Holds (sym (spots-Leaf leaf)) (fits, tt) }

  pub leaf-tree : (leaf : Leaf) → FitsTree model (sim.Leaf leaf) → FitsAtomic model leaf
  leaf-tree leaf fits = (subst Holds (spots-Leaf leaf) fits.all).0

  -- a network
  pub tree-net : (net : Net) → FitsNet model net → FitsTree model (sim.Net net)
  tree-net net fits = record { all = subst Holds (sym (spots-Net net)) fits.all }

  pub net-tree : (net : Net) → FitsTree model (sim.Net net) → FitsNet model net
  net-tree net fits = record { all = subst Holds (spots-Net net) fits.all }

  -- a component of a network
  pub tree-kid : (kid : Kid) → FitsTree model (out-Kid kid).sim → FitsKid model kid
  tree-kid kid fits = record { all = subst Holds (sym (spots-kid kid)) fits.all }

  pub kid-tree : (kid : Kid) → FitsKid model kid → FitsTree model (out-Kid kid).sim
  kid-tree kid fits = record { all = subst Holds (spots-kid kid) fits.all }

  kids-together : (kids : List Kid) → AllByRecursion (FitsKid model) kids → Holds (flat_map spots_of_kid kids)
  kids-together [] all = tt
  kids-together (kid ∷ kids) all = all-append (FitsSpot model) (spots_of_kid kid) (flat_map spots_of_kid kids) all.0.all (kids-together kids all.1)

  kids-apart : (kids : List Kid) → Holds (flat_map spots_of_kid kids) → AllByRecursion (FitsKid model) kids
  kids-apart [] all = tt
  kids-apart (kid ∷ kids) all = (
    record { all = all-left (FitsSpot model) (spots_of_kid kid) (flat_map spots_of_kid kids) all },
    kids-apart kids (all-right (FitsSpot model) (spots_of_kid kid) (flat_map spots_of_kid kids) all),
  )

  -- a network fits where its own parts and its components do
  pub net-parts : (net : Net) → FitsShape model (shape_in net) → AllByRecursion (FitsKid model) (out-Net net).kids → FitsNet model net
  net-parts net shape kids = record { all = subst Holds (sym (spots-net net)) (shape, kids-together (out-Net net).kids kids) }

  pub net-shape : (net : Net) → FitsNet model net → FitsShape model (shape_in net)
  net-shape net fits = (subst Holds (spots-net net) fits.all).0

  pub net-kids : (net : Net) → FitsNet model net → AllByRecursion (FitsKid model) (out-Net net).kids
  net-kids net fits = kids-apart (out-Net net).kids (subst Holds (spots-net net) fits.all).1
