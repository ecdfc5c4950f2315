-- The next event of a tree that fits a program is at a moment of a run.
use Rattle.std.proofs.Common.{◌≡◌, List, [], ◌∷◌, map, sym, ap, subst, ◌∙◌, arith}
use Rattle.std.specs.List.{AllByRecursion}
use Rattle.dsde_syntax.specs.declared.decl.Model.{Model}
use Rattle.dsde_values.specs.declared.when.When.{When}
use Rattle.dsde_values.specs.declared.when.When.TheVariants.{At, Never}
use Rattle.dsde_sim_tree.specs.given.formalism.leaf_Leaf.{Leaf}
use Rattle.dsde_system.specs.Fitting.{IsInTime}
use Rattle.dsde_sim_tree.specs.declared.sim.Kid.{Kid}
use Rattle.dsde_sim_tree.specs.declared.sim.Net.{Net}
use Rattle.dsde_sim_tree.specs.declared.sim.Sim.{Sim}
use Rattle.dsde_sim_tree.specs.declared.sim.Sim.TheVariants as sim
use Rattle.dsde_sim_tree.specs.declared.sim.Sim.TheOpen as layer
use Rattle.dsde_sim_tree.specs.declared.sim.Sim.TheFolds.{fold-Net, fold-roll-Sim, fold-roll-Kid, fold-roll-Net}
use Rattle.dsde_sim_tree.specs.declared.sim.Sim.TheViews.{out-Kid, out-Net, roll-out-Kid, roll-out-Net, rolls-Leaf, rolls-Net}
use Rattle.dsde_sim_tree.specs.Tree.{sooner, soonest, next_step, next_kid, next_net, next_time, next_of_kid}
use Rattle.dsde_sim_moving.specs.Fitting.{FitsTree, FitsKid}
use Rattle.dsde_sim_moving.specs.Fits.{leaf-tree, net-tree, net-shape, net-kids, kid-tree}
use Rattle.dsde_sim_tree.specs.lemmas.Trees.{each_tree}

abbrev next_of_net : Net → When
next_of_net = fold-Net When When When next_step next_kid next_net

next-Leaf : (leaf : Leaf) → next_time (sim.Leaf leaf) ≡ leaf.next
next-Leaf leaf = ap next_time (sym (rolls-Leaf leaf)) ∙ fold-roll-Sim When When When next_step next_kid next_net (layer.Leaf leaf)

next-Net : (net : Net) → next_time (sim.Net net) ≡ next_of_net net
next-Net net = ap next_time (sym (rolls-Net net)) ∙ fold-roll-Sim When When When next_step next_kid next_net (layer.Net net)

next-net : (net : Net) → next_of_net net ≡ soonest (out-Net net).boss.next (map next_of_kid (out-Net net).kids)
next-net net = ap next_of_net (sym (roll-out-Net net)) ∙ fold-roll-Net When When When next_step next_kid next_net (out-Net net)

next-kid : (kid : Kid) → next_of_kid kid ≡ next_time (out-Kid kid).sim
next-kid kid = ap next_of_kid (sym (roll-out-Kid kid)) ∙ fold-roll-Kid When When When next_step next_kid next_net (out-Kid kid)

sooner-in : (one other : When) → IsInTime one → IsInTime other → IsInTime (sooner one other)
sooner-in (At time) (At later) one other = omega (arith, one, other)
sooner-in (At time) Never one other = one
sooner-in Never other one later = later

soonest-in : (first : When) (nexts : List When) → IsInTime first → AllByRecursion IsInTime nexts → IsInTime (soonest first nexts)
soonest-in first [] one all = one
soonest-in first (next ∷ nexts) one all = soonest-in (sooner first next) nexts (sooner-in first next one all.0) all.1

module _ (model : Model) where
  abbrev InTime : Sim → Type 0
  InTime tree = FitsTree model tree → IsInTime (next_time tree)

  kids-in : (kids : List Kid) → AllByRecursion (FitsKid model) kids → AllByRecursion (λ (kid : Kid). InTime (out-Kid kid).sim) kids → AllByRecursion IsInTime (map next_of_kid kids)
  kids-in [] fits all = tt
  kids-in (kid ∷ kids) fits all = (subst IsInTime (sym (next-kid kid)) (all.0 (kid-tree model kid fits.0)), kids-in kids fits.1 all.1)

  of-leaf : (leaf : Leaf) → InTime (sim.Leaf leaf)
  of-leaf leaf fits = subst IsInTime (sym (next-Leaf leaf)) (leaf-tree model leaf fits).fits.next

  of-net : (net : Net) → AllByRecursion (λ (kid : Kid). InTime (out-Kid kid).sim) (out-Net net).kids → InTime (sim.Net net)
  of-net net all fits =
      let own = net-tree model net fits in
      subst IsInTime (sym (next-Net net ∙ next-net net))
      (soonest-in (out-Net net).boss.next (map next_of_kid (out-Net net).kids) (net-shape model net own).boss.next (kids-in (out-Net net).kids (net-kids model net own) all))

  pub in-time : (tree : Sim) → FitsTree model tree → IsInTime (next_time tree)
  in-time = each_tree InTime of-leaf of-net
