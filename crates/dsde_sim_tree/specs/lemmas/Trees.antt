-- Induction over trees.
use Rattle.std.proofs.Common.{List, [], ◌∷◌, map, sym, ap, subst}
use Rattle.std.specs.List.{AllByRecursion}
use Rattle.dsde_formalism.specs.declared.leaf.Leaf.{Leaf}
use Rattle.dsde_sim_tree.specs.declared.sim.Kid.{Kid}
use Rattle.dsde_sim_tree.specs.declared.sim.Net.{Net}
use Rattle.dsde_sim_tree.specs.declared.sim.Sim.{Sim}
use Rattle.dsde_sim_tree.specs.declared.sim.Sim.TheVariants as sim
use Rattle.dsde_sim_tree.specs.declared.sim.Sim.TheOpen as layer
use Rattle.dsde_sim_tree.specs.declared.sim.Sim.TheOpen.{Sim-F, Net-F, Kid-F}
use Rattle.dsde_sim_tree.specs.declared.sim.Sim.TheFolds.{ind-Sim, map-Sim, map-Kid, map-Net}
use Rattle.dsde_sim_tree.specs.declared.sim.Sim.TheViews.{out-Kid, out-Net, roll-Sim, roll-Kid, roll-Net, out-roll-Kid, out-roll-Net, rolls-Leaf, rolls-Net}

-- A fact of each tree, by leaves and by nets whose kids have it.
module _ (P : Sim → Type 0) (of_leaf : (leaf : Leaf) → P (sim.Leaf leaf)) (of_net : (net : Net) → AllByRecursion (λ kid. P (out-Kid kid).sim) (out-Net net).kids → P (sim.Net net)) where
  abbrev OfKid : Kid → Type 0
  OfKid kid = P (out-Kid kid).sim

  abbrev OfNet : Net → Type 0
  OfNet net = P (sim.Net net)

  abbrev S : Type 0
  S = (s : Sim) × P s

  abbrev K : Type 0
  K = (k : Kid) × OfKid k

  abbrev N : Type 0
  N = (n : Net) × OfNet n

  of_each : (kids : List K) → AllByRecursion OfKid (map (λ (e : K). e.0) kids)
  of_each [] = tt
  of_each (kid ∷ kids) = (kid.1, of_each kids)

  of_sim : (y : Sim-F S K N) → P (roll-Sim (map-Sim S K N Sim Kid Net (λ e. e.0) (λ e. e.0) (λ e. e.0) y))
  of_sim (layer.Leaf leaf) = subst P (sym (rolls-Leaf leaf)) (of_leaf leaf)
  of_sim (layer.Net net) = subst P (sym (rolls-Net net.0)) net.1

  of_kid : (y : Kid-F S K N) → OfKid (roll-Kid (map-Kid S K N Sim Kid Net (λ e. e.0) (λ e. e.0) (λ e. e.0) y))
  of_kid y = subst P (sym (ap (λ kid. kid.sim) (out-roll-Kid (map-Kid S K N Sim Kid Net (λ e. e.0) (λ e. e.0) (λ e. e.0) y)))) y.sim.1

  of_whole : (y : Net-F S K N) → OfNet (roll-Net (map-Net S K N Sim Kid Net (λ e. e.0) (λ e. e.0) (λ e. e.0) y))
  of_whole y =
      let opened = map-Net S K N Sim Kid Net (λ e. e.0) (λ e. e.0) (λ e. e.0) y in
      of_net (roll-Net opened) (subst (λ kids. AllByRecursion OfKid kids) (sym (ap (λ net. net.kids) (out-roll-Net opened))) (of_each y.kids))

  pub each_tree : (s : Sim) → P s
  each_tree = ind-Sim P OfKid OfNet
      (λ x y is. subst (λ (z : Sim-F Sim Kid Net). P (roll-Sim z)) is (of_sim y))
      (λ x y is. subst (λ (z : Kid-F Sim Kid Net). OfKid (roll-Kid z)) is (of_kid y))
      (λ x y is. subst (λ (z : Net-F Sim Kid Net). OfNet (roll-Net z)) is (of_whole y))
