-- Where the output message has no fault, each component and each executive has one delivery: what a move
-- asks again is answered.
use Rattle.std.proofs.Common.{◌≡◌, ℕ, List, [], ◌∷◌, ◌++◌, map, Result, Ok, Err, refl, sym, ◌∙◌, ap}
use Rattle.std.proofs.lemmas.List.{map-append}
use Rattle.std.specs.List.{AllByRecursion, flat_map}
use Rattle.dsde_sim_tree.specs.Tree.{name_of}
use Rattle.dsde_values.specs.declared.path.Path.{Path}
use Rattle.dsde_sim_tree.specs.given.formalism.leaf_Leaf.{Leaf}
use Rattle.dsde_sim_tree.specs.given.formalism.System.{System, Ports}
use Rattle.dsde_sim_tree.specs.given.structure.plan_Link.{Link}
use Rattle.dsde_sim_tree.specs.given.structure.plan_Part_TheVariants as part
use Rattle.dsde_sim_tree.specs.given.structure.sources_Given.{Given}
use Rattle.dsde_sim_tree.specs.given.structure.sources_Sources.{Sources}
use Rattle.dsde_sim_tree.specs.given.structure.Gather.{gathered}
use Rattle.dsde_sim_tree.specs.declared.fault.TurnEnd.{TurnEnd}
use Rattle.dsde_sim_tree.specs.Told.{below, at, to_boss}
use Rattle.dsde_sim_tree.specs.declared.sim.Kid.{Kid}
use Rattle.dsde_sim_tree.specs.declared.sim.Net.{Net}
use Rattle.dsde_sim_tree.specs.declared.sim.Sim.{Sim}
use Rattle.dsde_sim_tree.specs.declared.sim.Sim.TheFolds.{fold-roll-Sim, fold-roll-Kid, fold-roll-Net}
use Rattle.dsde_sim_tree.specs.declared.sim.Sim.TheOpen as layer
use Rattle.dsde_sim_tree.specs.declared.sim.Sim.TheVariants as sim
use Rattle.dsde_sim_tree.specs.declared.sim.Sim.TheViews.{out-Kid, out-Net, roll-out-Kid, roll-out-Net, rolls-Net}
use Rattle.dsde_sim_tree.specs.Move.{ins_of}
use Rattle.dsde_sim_tree.specs.Output.{◌>>=◌, sent, Answer, KidAnswer, asked, sources_of, output_step, output_kid, output_net, output, kid_output, output_of_net}
use Rattle.dsde_sim_tree.specs.lemmas.Trees.{each_tree}
use Rattle.dsde_sim_movers.specs.Places.{leaves_from, leaves_of_kid}
use Rattle.dsde_sim_movers.specs.Deliveries.{Delivery, KidReceives, shared, deliveries, deliveries_of_kid}
use Rattle.dsde_sim_movers.specs.lemmas.Opens.{leaves-Leaf, leaves-Net, leaves-kid, deliveries-Leaf, deliveries-Net, deliveries-kid}

-- where two steps came to a value the first did
first-ok : {A B : Type 0} (result : Result A TurnEnd) (next : A → Result B TurnEnd) (value : B) → (result >>= next) ≡ Ok value → (first : A) × (result ≡ Ok first) × (next first ≡ Ok value)
first-ok (Ok first) next value is = (first, refl, is)
first-ok (Err end) next value is = absurd (let wrong : Err end ≡ Ok value = is in cc)

module _ (system : System) where
  output-Net : (net : Net) (path : Path) (time : ℕ) →
      output system (sim.Net net) path time
      ≡ (sources_of system (map (kid_output system) (out-Net net).kids) (out-Net net).boss path time [] >>= (λ sources. Ok (gathered system.translate (out-Net net).links sources part.Net (system.network (out-Net net).model (out-Net net).args).outs)))
  output-Net net path time =
      ap (λ (tree : Sim). output system tree path time) (sym (rolls-Net net))
      ∙ ap (λ (answer : Answer). answer path time) (fold-roll-Sim Answer KidAnswer Answer (output_step system) output_kid (output_net system) (layer.Net net))
      ∙ ap (λ (n : Net). output_of_net system n path time) (sym (roll-out-Net net))
      ∙ ap (λ (answer : Answer). answer path time) (fold-roll-Net Answer KidAnswer Answer (output_step system) output_kid (output_net system) (out-Net net))

  output-kid : (kid : Kid) (path : Path) (time : ℕ) →
      kid_output system kid path time ≡ (output system (out-Kid kid).sim (below path (name_of kid)) time >>= (λ ports. Ok (record { name = name_of kid; ports = ports })))
  output-kid kid path time =
      ap (λ (k : Kid). kid_output system k path time) (sym (roll-out-Kid kid))
      ∙ ap (λ (answer : KidAnswer). answer path time) (fold-roll-Kid Answer KidAnswer Answer (output_step system) output_kid (output_net system) (out-Kid kid))

  -- the output of a component came to a value
  abbrev Answered : Path → ℕ → Kid → Type 0
  Answered path time kid = (ports : Ports) × (output system (out-Kid kid).sim (below path (name_of kid)) time ≡ Ok ports)

  all-answered : (kids : List Kid) (path : Path) (time : ℕ) (done all : List Given) → asked (map (kid_output system) kids) path time done ≡ Ok all → AllByRecursion (Answered path time) kids
  all-answered [] path time done all is = tt
  all-answered (kid ∷ kids) path time done all is =
      let one = first-ok (kid_output system kid path time) (λ given. asked (map (kid_output system) kids) path time (done ++ given ∷ [])) all is in
      let own = first-ok (output system (out-Kid kid).sim (below path (name_of kid)) time) (λ ports. Ok (record { name = name_of kid; ports = ports })) one.0 (sym (output-kid kid path time) ∙ one.1) in
      ((own.0, own.1), all-answered kids path time (done ++ one.0 ∷ []) all one.2)

  -- What is asked again is answered, whatever was received.
  pub asked-again : (net : Net) (path : Path) (time : ℕ) (got all : Ports) → output system (sim.Net net) path time ≡ Ok all →
      (sources : Sources) × (sources_of system (map (kid_output system) (out-Net net).kids) (out-Net net).boss path time got ≡ Ok sources) × AllByRecursion (Answered path time) (out-Net net).kids
  asked-again net path time got all is =
      let kids = asked (map (kid_output system) (out-Net net).kids) path time [] in
      let boss = at (to_boss path) (sent system (out-Net net).boss time) in
      let from_kids = λ (net_got : Ports) (given : List Given). boss >>= (λ own. let known : Result Sources TurnEnd = Ok (record { net = net_got; boss = own; kids = given }) in known) in
      let known = first-ok (sources_of system (map (kid_output system) (out-Net net).kids) (out-Net net).boss path time []) _ all (sym (output-Net net path time) ∙ is) in
      let given = first-ok kids (from_kids []) known.0 known.1 in
      let own = first-ok boss _ known.0 given.2 in (
        record { net = got; boss = own.0; kids = given.0 },
        ap (λ (r : Result (List Given) TurnEnd). r >>= from_kids got) given.1
            ∙ ap (λ (r : Result Ports TurnEnd). r >>= (λ ports. let found : Result Sources TurnEnd = Ok (record { net = got; boss = ports; kids = given.0 }) in found)) own.1,
        all-answered (out-Net net).kids path time [] given.0 given.1,
      )

  -- each atomic component and each executive has one delivery, in the order of the moves
  abbrev pub HasDeliveries : Sim → Type 0
  HasDeliveries tree = (path : Path) (time : ℕ) (got all : Ports) → output system tree path time ≡ Ok all → map (λ delivery. delivery.path) (deliveries system tree path time got) ≡ leaves_from tree path

  has-leaf : (leaf : Leaf) → HasDeliveries (sim.Leaf leaf)
  has-leaf leaf path time got all is = ap (map (λ (delivery : Delivery). delivery.path)) (deliveries-Leaf system leaf path time got) ∙ sym (leaves-Leaf leaf path)

  has-kids : (kids : List Kid) → AllByRecursion (λ kid. HasDeliveries (out-Kid kid).sim) kids → (path : Path) (time : ℕ) (links : List Link) (sources : Sources) → AllByRecursion (Answered path time) kids →
      map (λ delivery. delivery.path) (flat_map (λ (kid : KidReceives). kid path time links sources) (map (deliveries_of_kid system) kids)) ≡ flat_map (λ kid. leaves_of_kid kid path) kids
  has-kids [] has path time links sources answered = refl
  has-kids (kid ∷ kids) has path time links sources answered =
      map-append (λ (delivery : Delivery). delivery.path) (deliveries_of_kid system kid path time links sources) (flat_map (λ (kid : KidReceives). kid path time links sources) (map (deliveries_of_kid system) kids))
      ∙ (λ i. (ap (map (λ (delivery : Delivery). delivery.path)) (deliveries-kid system kid path time links sources)
      ∙ has.0 (below path (name_of kid)) time (gathered system.translate links sources (part.Kid (name_of kid)) (ins_of system (out-Kid kid).sim)) answered.0.0 answered.0.1
      ∙ sym (leaves-kid kid path)) i
      ++ has-kids kids has.1 path time links sources answered.1 i)

  has-net : (net : Net) → AllByRecursion (λ kid. HasDeliveries (out-Kid kid).sim) (out-Net net).kids → HasDeliveries (sim.Net net)
  has-net net has path time got all is =
      let open_net = out-Net net in
      let known = asked-again net path time got all is in
      let carried = shared system open_net.boss (map (deliveries_of_kid system) open_net.kids) open_net.links path time in
      let given : deliveries system (sim.Net net) path time got ≡ carried known.0 =
      deliveries-Net system net path time got
      ∙ ap (λ (r : Result Sources TurnEnd). let list : List Delivery = elim r [ Ok sources ↦ carried sources | Err end ↦ [] ] in list) known.1 in
      ap (map (λ (delivery : Delivery). delivery.path)) given
      ∙ map-append (λ (delivery : Delivery). delivery.path) (flat_map (λ (kid : KidReceives). kid path time open_net.links known.0) (map (deliveries_of_kid system) open_net.kids)) _
      ∙ ap (λ places. places ++ to_boss path ∷ []) (has-kids open_net.kids has path time open_net.links known.0 known.2)
      ∙ sym (leaves-Net net path)

  pub have-deliveries : (tree : Sim) → HasDeliveries tree
  have-deliveries = each_tree HasDeliveries has-leaf has-net
