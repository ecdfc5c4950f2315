-- What is delivered in what stands at a path is delivered behind it.
use Rattle.std.proofs.Common.{ℕ, List, [], ◌∷◌, ◌++◌, map, Result, Ok, Err, sym, ◌∙◌, subst, append_assoc, append-nil}
use Rattle.std.specs.List.{AllByRecursion, flat_map}
use Rattle.dsde_sim_tree.specs.Tree.{name_of}
use Rattle.dsde_values.specs.declared.name.Name.{Name}
use Rattle.dsde_values.specs.declared.path.Path.{Path}
use Rattle.dsde_sim_tree.specs.given.formalism.leaf_Leaf.{Leaf}
use Rattle.dsde_sim_tree.specs.given.formalism.System.{System, Ports}
use Rattle.dsde_sim_tree.specs.given.structure.plan_Link.{Link}
use Rattle.dsde_sim_tree.specs.given.structure.plan_Part_TheVariants as part
use Rattle.dsde_sim_tree.specs.given.structure.sources_Sources.{Sources}
use Rattle.dsde_sim_tree.specs.given.structure.Gather.{gathered}
use Rattle.dsde_sim_tree.specs.declared.fault.TurnEnd.{TurnEnd}
use Rattle.dsde_values.specs.Path.{EXEC}
use Rattle.dsde_sim_tree.specs.Told.{below}
use Rattle.dsde_sim_tree.specs.declared.sim.Kid.{Kid}
use Rattle.dsde_sim_tree.specs.declared.sim.Net.{Net}
use Rattle.dsde_sim_tree.specs.declared.sim.Sim.{Sim}
use Rattle.dsde_sim_tree.specs.declared.sim.Sim.TheVariants as sim
use Rattle.dsde_sim_tree.specs.declared.sim.Sim.TheViews.{out-Kid, out-Net}
use Rattle.dsde_sim_tree.specs.Move.{ins_of}
use Rattle.dsde_sim_tree.specs.Output.{sources_of, kid_output}
use Rattle.dsde_sim_tree.specs.lemmas.Trees.{each_tree}
use Rattle.dsde_sim_movers.specs.Deliveries.{Delivery, KidReceives, shared, deliveries, deliveries_of_kid}
use Rattle.dsde_sim_movers.specs.lemmas.Events.{each-append, each-weaker}
use Rattle.dsde_sim_movers.specs.lemmas.Opens.{deliveries-Leaf, deliveries-Net, deliveries-kid}
use Rattle.dsde_sim_movers.specs.lemmas.Seats.{IsBehind}

abbrev pub AreBehind : Path → List Delivery → Type 0
AreBehind path list = AllByRecursion (λ (own : Delivery). IsBehind path own.path) list

pub behind-above : (path : Path) (name : Name) (list : List Delivery) → AreBehind (below path name) list → AreBehind path list
behind-above path name list behind =
    each-weaker (λ (own : Delivery). IsBehind (below path name) own.path) (λ (own : Delivery). IsBehind path own.path)
    (λ own is. (name ∷ is.0, is.1 ∙ append_assoc path.names (name ∷ []) is.0)) list behind

module _ (system : System) where
  abbrev pub DeliversBehind : Sim → Type 0
  DeliversBehind tree = (path : Path) (time : ℕ) (got : Ports) → AreBehind path (deliveries system tree path time got)

  behind-leaf : (leaf : Leaf) → DeliversBehind (sim.Leaf leaf)
  behind-leaf leaf path time got =
      subst (λ (list : List Delivery). AreBehind path list) (sym (deliveries-Leaf system leaf path time got)) (([], sym (append-nil path.names)), tt)

  behind-kid-of : (kid : Kid) → DeliversBehind (out-Kid kid).sim → (path : Path) (time : ℕ) (links : List Link) (sources : Sources) →
      AreBehind (below path (name_of kid)) (deliveries_of_kid system kid path time links sources)
  behind-kid-of kid behind path time links sources =
      subst (λ (list : List Delivery). AreBehind (below path (name_of kid)) list) (sym (deliveries-kid system kid path time links sources))
      (behind (below path (name_of kid)) time (gathered system.translate links sources (part.Kid (name_of kid)) (ins_of system (out-Kid kid).sim)))

  behind-kids : (kids : List Kid) → AllByRecursion (λ kid. DeliversBehind (out-Kid kid).sim) kids → (path : Path) (time : ℕ) (links : List Link) (sources : Sources) →
      AreBehind path (flat_map (λ (kid : KidReceives). kid path time links sources) (map (deliveries_of_kid system) kids))
  behind-kids [] behind path time links sources = tt
  behind-kids (kid ∷ kids) behind path time links sources =
      each-append (λ (own : Delivery). IsBehind path own.path) (deliveries_of_kid system kid path time links sources) _
      (behind-above path (name_of kid) _ (behind-kid-of kid behind.0 path time links sources))
      (behind-kids kids behind.1 path time links sources)

  behind-sources : (net : Net) → AllByRecursion (λ kid. DeliversBehind (out-Kid kid).sim) (out-Net net).kids → (path : Path) (time : ℕ) (found : Result Sources TurnEnd) →
      (let list : List Delivery = elim found [
        | Ok sources ↦ shared system (out-Net net).boss (map (deliveries_of_kid system) (out-Net net).kids) (out-Net net).links path time sources
        | Err end ↦ []
      ] in AreBehind path list)
  behind-sources net behind path time (Ok sources) =
      each-append (λ (own : Delivery). IsBehind path own.path) _ _ (behind-kids (out-Net net).kids behind path time (out-Net net).links sources) ((EXEC ∷ [], λ i. path.names ++ EXEC ∷ []), tt)
  behind-sources net behind path time (Err end) = tt

  behind-net : (net : Net) → AllByRecursion (λ kid. DeliversBehind (out-Kid kid).sim) (out-Net net).kids → DeliversBehind (sim.Net net)
  behind-net net behind path time got =
      subst (λ (list : List Delivery). AreBehind path list) (sym (deliveries-Net system net path time got))
      (behind-sources net behind path time (sources_of system (map (kid_output system) (out-Net net).kids) (out-Net net).boss path time got))

  pub delivers-behind : (tree : Sim) → DeliversBehind tree
  delivers-behind = each_tree DeliversBehind behind-leaf behind-net

  -- of a component, as one of its network
  pub behind-kid : (kid : Kid) (path : Path) (time : ℕ) (links : List Link) (sources : Sources) →
      AreBehind (below path (name_of kid)) (deliveries_of_kid system kid path time links sources)
  behind-kid kid = behind-kid-of kid (delivers-behind (out-Kid kid).sim)
