-- What folds over a tree are at its parts.
use Rattle.std.proofs.Common.{◌≡◌, ℕ, List, [], ◌∷◌, ◌++◌, map, refl, sym, ap, ◌∙◌}
use Rattle.std.proofs.lemmas.Simd.{map-map}
use Rattle.std.specs.List.{flat_map}
use Rattle.dsde_sim_tree.specs.Tree.{name_of}
use Rattle.dsde_values.specs.declared.name.Name.{Name}
use Rattle.dsde_values.specs.declared.path.Path.{Path}
use Rattle.dsde_sim_tree.specs.given.formalism.leaf_Leaf.{Leaf}
use Rattle.dsde_sim_tree.specs.given.formalism.System.{System, Ports}
use Rattle.dsde_sim_tree.specs.given.structure.plan_Link.{Link}
use Rattle.dsde_sim_tree.specs.given.structure.sources_Sources.{Sources}
use Rattle.dsde_sim_tree.specs.Told.{below, to_boss}
use Rattle.dsde_sim_tree.specs.declared.sim.Kid.{Kid}
use Rattle.dsde_sim_tree.specs.declared.sim.Net.{Net}
use Rattle.dsde_sim_tree.specs.declared.sim.Sim.{Sim}
use Rattle.dsde_sim_tree.specs.declared.sim.Sim.TheFolds.{fold-roll-Sim, fold-roll-Kid, fold-roll-Net, para-roll-Sim, para-roll-Kid, para-roll-Net}
use Rattle.dsde_sim_tree.specs.declared.sim.Sim.TheOpen as layer
use Rattle.dsde_sim_tree.specs.declared.sim.Sim.TheVariants as sim
use Rattle.dsde_sim_tree.specs.declared.sim.Sim.TheViews.{out-Kid, out-Net, roll-out-Kid, roll-out-Net, rolls-Leaf, rolls-Net}
use Rattle.dsde_sim_tree.specs.Output.{KidAnswer, kid_output}
use Rattle.dsde_sim_movers.specs.Places.{Places, paths_step, paths_kid, paths_net, paths_from, paths_of_kid, paths_of_net, leaves_net, leaves_from, leaves_of_kid, leaves_of_net}
use Rattle.dsde_sim_movers.specs.Deliveries.{Receives, KidReceives, receive_step, receive_kid, receive_net, received_kid, received_net, deliveries, deliveries_of_kid, deliveries_of_net}

pub flat_map-map : {X Y Z : Type 0} (f : Y → List Z) (g : X → Y) (xs : List X) → flat_map f (map g xs) ≡ flat_map (λ x. f (g x)) xs
flat_map-map f g [] = refl
flat_map-map f g (x ∷ xs) = ap (λ rest. f (g x) ++ rest) (flat_map-map f g xs)

pub paths-Leaf : (leaf : Leaf) (path : Path) → paths_from (sim.Leaf leaf) path ≡ path ∷ []
paths-Leaf leaf path =
    ap (λ (tree : Sim). paths_from tree path) (sym (rolls-Leaf leaf))
    ∙ ap (λ (places : Places). places path) (fold-roll-Sim Places Places Places paths_step paths_kid paths_net (layer.Leaf leaf))

pub paths-Net : (net : Net) (path : Path) →
    paths_from (sim.Net net) path ≡ path ∷ flat_map (λ kid. paths_of_kid kid path) (out-Net net).kids ++ to_boss path ∷ []
paths-Net net path =
    ap (λ (tree : Sim). paths_from tree path) (sym (rolls-Net net))
    ∙ ap (λ (places : Places). places path) (fold-roll-Sim Places Places Places paths_step paths_kid paths_net (layer.Net net))
    ∙ ap (λ (n : Net). paths_of_net n path) (sym (roll-out-Net net))
    ∙ ap (λ (places : Places). places path) (fold-roll-Net Places Places Places paths_step paths_kid paths_net (out-Net net))
    ∙ ap (λ within. path ∷ within ++ to_boss path ∷ []) (flat_map-map (λ (places : Places). places path) paths_of_kid (out-Net net).kids)

pub paths-kid : (kid : Kid) (path : Path) → paths_of_kid kid path ≡ paths_from (out-Kid kid).sim (below path (name_of kid))
paths-kid kid path =
    ap (λ (k : Kid). paths_of_kid k path) (sym (roll-out-Kid kid))
    ∙ ap (λ (places : Places). places path) (fold-roll-Kid Places Places Places paths_step paths_kid paths_net (out-Kid kid))

pub leaves-Leaf : (leaf : Leaf) (path : Path) → leaves_from (sim.Leaf leaf) path ≡ path ∷ []
leaves-Leaf leaf path =
    ap (λ (tree : Sim). leaves_from tree path) (sym (rolls-Leaf leaf))
    ∙ ap (λ (places : Places). places path) (fold-roll-Sim Places Places Places paths_step paths_kid leaves_net (layer.Leaf leaf))

pub leaves-Net : (net : Net) (path : Path) → leaves_from (sim.Net net) path ≡ flat_map (λ kid. leaves_of_kid kid path) (out-Net net).kids ++ to_boss path ∷ []
leaves-Net net path =
    ap (λ (tree : Sim). leaves_from tree path) (sym (rolls-Net net))
    ∙ ap (λ (places : Places). places path) (fold-roll-Sim Places Places Places paths_step paths_kid leaves_net (layer.Net net))
    ∙ ap (λ (n : Net). leaves_of_net n path) (sym (roll-out-Net net))
    ∙ ap (λ (places : Places). places path) (fold-roll-Net Places Places Places paths_step paths_kid leaves_net (out-Net net))
    ∙ ap (λ within. within ++ to_boss path ∷ []) (flat_map-map (λ (places : Places). places path) leaves_of_kid (out-Net net).kids)

pub leaves-kid : (kid : Kid) (path : Path) → leaves_of_kid kid path ≡ leaves_from (out-Kid kid).sim (below path (name_of kid))
leaves-kid kid path =
    ap (λ (k : Kid). leaves_of_kid k path) (sym (roll-out-Kid kid))
    ∙ ap (λ (places : Places). places path) (fold-roll-Kid Places Places Places paths_step paths_kid leaves_net (out-Kid kid))

module _ (system : System) where
  pub deliveries-Leaf : (leaf : Leaf) (path : Path) (time : ℕ) (got : Ports) →
      deliveries system (sim.Leaf leaf) path time got ≡ record { path = path; model = leaf.model; ports = got } ∷ []
  deliveries-Leaf leaf path time got =
      ap (λ (tree : Sim). deliveries system tree path time got) (sym (rolls-Leaf leaf))
      ∙ ap (λ (receives : Receives). receives path time got) (para-roll-Sim Receives KidReceives Receives receive_step (receive_kid system) (receive_net system) (layer.Leaf leaf))

  pub deliveries-kid : (kid : Kid) (path : Path) (time : ℕ) (links : List Link) (sources : Sources) →
      deliveries_of_kid system kid path time links sources
      ≡ received_kid system (name_of kid) (out-Kid kid).sim (deliveries system (out-Kid kid).sim) path time links sources
  deliveries-kid kid path time links sources =
      ap (λ (k : Kid). deliveries_of_kid system k path time links sources) (sym (roll-out-Kid kid))
      ∙ ap (λ (receives : KidReceives). receives path time links sources) (para-roll-Kid Receives KidReceives Receives receive_step (receive_kid system) (receive_net system) (out-Kid kid))

  abbrev beside : Kid → Kid × KidReceives
  beside kid = (kid, deliveries_of_kid system kid)

  pub deliveries-Net : (net : Net) (path : Path) (time : ℕ) (got : Ports) →
      deliveries system (sim.Net net) path time got
      ≡ received_net system (out-Net net).boss (map (kid_output system) (out-Net net).kids) (map (deliveries_of_kid system) (out-Net net).kids) (out-Net net).links path time got
  deliveries-Net net path time got =
      ap (λ (tree : Sim). deliveries system tree path time got) (sym (rolls-Net net))
      ∙ ap (λ (receives : Receives). receives path time got) (para-roll-Sim Receives KidReceives Receives receive_step (receive_kid system) (receive_net system) (layer.Net net))
      ∙ ap (λ (n : Net). deliveries_of_net system n path time got) (sym (roll-out-Net net))
      ∙ ap (λ (receives : Receives). receives path time got) (para-roll-Net Receives KidReceives Receives receive_step (receive_kid system) (receive_net system) (out-Net net))
      ∙ ap (λ (answers : List KidAnswer). received_net system (out-Net net).boss answers (map (λ (kid : Kid × KidReceives). kid.1) (map beside (out-Net net).kids)) (out-Net net).links path time got)
      (map-map (λ (kid : Kid × KidReceives). kid_output system kid.0) beside (out-Net net).kids)
      ∙ ap (λ (kids : List KidReceives). received_net system (out-Net net).boss (map (kid_output system) (out-Net net).kids) kids (out-Net net).links path time got)
      (map-map (λ (kid : Kid × KidReceives). kid.1) beside (out-Net net).kids)
