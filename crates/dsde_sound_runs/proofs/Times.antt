-- Times of a run.
use Rattle.std.proofs.Common.{List, [], ◌∷◌, map, Option, Some, None, sym, subst, arith}
use Rattle.std.specs.Prelude.{IfSome}
use Rattle.std.specs.List.{AllByRecursion}
use Rattle.dsde_syntax.specs.declared.decl.Model.{Model}
use Rattle.dsde_values.specs.declared.arrival.Arrival.{Arrival}
use Rattle.dsde_values.specs.declared.when.When.{When}
use Rattle.dsde_values.specs.declared.when.When.TheVariants.{At, Never}
use Rattle.dsde_values.specs.When.{IsMoment}
use Rattle.dsde_formalism.specs.declared.leaf.Leaf.{Leaf}
use Rattle.dsde_sim_starting.specs.given.system.Fitting.{IsInTime}
use Rattle.dsde_sim_tree.specs.declared.sim.Kid.{Kid}
use Rattle.dsde_sim_tree.specs.declared.sim.Net.{Net}
use Rattle.dsde_sim_tree.specs.declared.sim.Sim.{Sim}
use Rattle.dsde_sim_tree.specs.declared.sim.Sim.TheVariants as sim
use Rattle.dsde_sim_tree.specs.declared.sim.Sim.TheViews.{out-Kid, out-Net}
use Rattle.dsde_sim_tree.specs.Opened.{shape_in}
use Rattle.dsde_sim_tree.specs.Tree.{next_time, next_of_kid, sooner, soonest}
use Rattle.dsde_sim_tree.specs.lemmas.Trees.{each_tree}
use Rattle.dsde_sim_tree.specs.Turn.{turn_time}
use Rattle.dsde_sim_starting.specs.Fitting.{FitsKid, FitsShape, FitsTree}
use Rattle.dsde_sim_starting.specs.lemmas.Fits.{kid-tree, leaf-tree, net-kids, net-shape, net-tree}
use Rattle.dsde_sound_runs.proofs.Opens.{next-Leaf, next-Net, next-kid}

sooner-in-time : (a b : When) → IsInTime a → IsInTime b → IsInTime (sooner a b)
sooner-in-time (At x) (At y) first later = omega (arith, first, later)
sooner-in-time (At x) Never first later = first
sooner-in-time Never b first later = later

soonest-in-time : (first : When) (others : List When) → IsInTime first → AllByRecursion IsInTime others → IsInTime (soonest first others)
soonest-in-time first [] own all = own
soonest-in-time first (next ∷ others) own all = soonest-in-time (sooner first next) others (sooner-in-time first next own all.0) all.1

module _ (model : Model) where
  abbrev InTime : Sim → Type 0
  InTime own = FitsTree model own → IsInTime (next_time own)

  leaf-in-time : (leaf : Leaf) → InTime (sim.Leaf leaf)
  leaf-in-time leaf fits = subst IsInTime (sym (next-Leaf leaf)) (leaf-tree model leaf fits).fits.next

  kids-in-time : (kids : List Kid) → AllByRecursion (λ (kid : Kid). InTime (out-Kid kid).sim) kids → AllByRecursion (FitsKid model) kids → AllByRecursion IsInTime (map next_of_kid kids)
  kids-in-time [] each fit = tt
  kids-in-time (kid ∷ kids) each fit = (subst IsInTime (sym (next-kid kid)) (each.0 (kid-tree model kid fit.0)), kids-in-time kids each.1 fit.1)

  net-in-time : (net : Net) → AllByRecursion (λ (kid : Kid). InTime (out-Kid kid).sim) (out-Net net).kids → InTime (sim.Net net)
  net-in-time net each fits =
      let shape : FitsShape model (shape_in net) = net-shape model net (net-tree model net fits) in
      subst IsInTime (sym (next-Net net))
      (soonest-in-time (out-Net net).boss.next (map next_of_kid (out-Net net).kids) shape.boss.next (kids-in-time (out-Net net).kids each (net-kids model net (net-tree model net fits))))

  -- the next event of a tree is at a moment of a run
  pub tree-in-time : (own : Sim) → InTime own
  tree-in-time = each_tree InTime leaf-in-time net-in-time

-- and so is the next turn
pub turn-in-time : (next : When) (head : Option Arrival) → IsInTime next → IfSome head (λ own. IsMoment own.time) → IfSome (turn_time next head) IsMoment
turn-in-time (At time) (Some head) first later = omega (arith, first, later)
turn-in-time (At time) None first later = first
turn-in-time Never (Some head) first later = later
turn-in-time Never None first later = tt
