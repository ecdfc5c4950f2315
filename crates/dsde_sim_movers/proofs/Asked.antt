-- The output message asks each that is due, in path order.
use Rattle.std.proofs.Common.{◌≡◌, ℕ, Bool, true, false, List, [], ◌∷◌, ◌++◌, map, Result, Ok, Err, refl, sym, ◌∙◌, ap, cond}
use Rattle.std.specs.List.{AllByRecursion, flat_map}
use Rattle.dsde_sim_tree.specs.Tree.{name_of}
use Rattle.dsde_values.specs.declared.path.Path.{Path}
use Rattle.dsde_values.specs.declared.arrival.Item.{Item}
use Rattle.dsde_faults.specs.declared.end.LeafEnd.{LeafEnd}
use Rattle.dsde_sim_tree.specs.given.formalism.leaf_Leaf.{Leaf}
use Rattle.dsde_sim_tree.specs.given.formalism.System.{System, Ports}
use Rattle.dsde_sim_tree.specs.given.formalism.Leaf as formal
use Rattle.dsde_sim_tree.specs.given.formalism.Leaf.{component_of, is_due, output_leaf, sent_at}
use Rattle.dsde_sim_tree.specs.given.structure.plan_Part_TheVariants as part
use Rattle.dsde_sim_tree.specs.given.structure.sources_Given.{Given}
use Rattle.dsde_sim_tree.specs.given.structure.sources_Sources.{Sources}
use Rattle.dsde_sim_tree.specs.given.structure.Gather.{gathered}
use Rattle.dsde_sim_tree.specs.declared.fault.TurnEnd.{TurnEnd}
use Rattle.dsde_sim_tree.specs.Told.{at, below, to_boss}
use Rattle.dsde_sim_tree.specs.declared.sim.Kid.{Kid}
use Rattle.dsde_sim_tree.specs.declared.sim.Net.{Net}
use Rattle.dsde_sim_tree.specs.declared.sim.Sim.{Sim}
use Rattle.dsde_sim_tree.specs.declared.sim.Sim.TheFolds.{fold-roll-Sim, fold-roll-Kid, fold-roll-Net}
use Rattle.dsde_sim_tree.specs.declared.sim.Sim.TheOpen as layer
use Rattle.dsde_sim_tree.specs.declared.sim.Sim.TheVariants as sim
use Rattle.dsde_sim_tree.specs.declared.sim.Sim.TheViews.{out-Kid, out-Net, roll-out-Kid, roll-out-Net, rolls-Leaf, rolls-Net}
use Rattle.dsde_sim_tree.specs.Output.{◌>>=◌, by_port, sent, Answer, KidAnswer, asked, sources_of, output_step, output_kid, output_net, output, kid_output, output_of_net}
use Rattle.dsde_sim_tree.specs.lemmas.Trees.{each_tree}
use Rattle.dsde_sim_movers.specs.lemmas.Opens.{flat_map-map}
use Rattle.dsde_sim_movers.specs.Asking.{Seated, Seatings, seated_step, seated_kid, seated_net, seated, seated_of_kid, seated_of_net, ending, ask_each, due_ones}

bind-assoc : {A B C : Type 0} (result : Result A TurnEnd) (next : A → Result B TurnEnd) (last : B → Result C TurnEnd) → ((result >>= next) >>= last) ≡ (result >>= (λ value. next value >>= last))
bind-assoc (Ok value) next last = refl
bind-assoc (Err end) next last = refl

pub seated-Leaf : (leaf : Leaf) (path : Path) → seated (sim.Leaf leaf) path ≡ record { path = path; leaf = leaf } ∷ []
seated-Leaf leaf path =
    ap (λ (tree : Sim). seated tree path) (sym (rolls-Leaf leaf))
    ∙ ap (λ (places : Seatings). places path) (fold-roll-Sim Seatings Seatings Seatings seated_step seated_kid seated_net (layer.Leaf leaf))

pub seated-Net : (net : Net) (path : Path) → seated (sim.Net net) path ≡ flat_map (λ kid. seated_of_kid kid path) (out-Net net).kids ++ record { path = to_boss path; leaf = (out-Net net).boss } ∷ []
seated-Net net path =
    ap (λ (tree : Sim). seated tree path) (sym (rolls-Net net))
    ∙ ap (λ (places : Seatings). places path) (fold-roll-Sim Seatings Seatings Seatings seated_step seated_kid seated_net (layer.Net net))
    ∙ ap (λ (n : Net). seated_of_net n path) (sym (roll-out-Net net))
    ∙ ap (λ (places : Seatings). places path) (fold-roll-Net Seatings Seatings Seatings seated_step seated_kid seated_net (out-Net net))
    ∙ ap (λ within. within ++ record { path = to_boss path; leaf = (out-Net net).boss } ∷ []) (flat_map-map (λ (places : Seatings). places path) seated_of_kid (out-Net net).kids)

pub seated-kid : (kid : Kid) (path : Path) → seated_of_kid kid path ≡ seated (out-Kid kid).sim (below path (name_of kid))
seated-kid kid path =
    ap (λ (k : Kid). seated_of_kid k path) (sym (roll-out-Kid kid))
    ∙ ap (λ (places : Seatings). places path) (fold-roll-Kid Seatings Seatings Seatings seated_step seated_kid seated_net (out-Kid kid))

module _ (system : System) (time : ℕ) where
  ask-append : (xs ys : List Seated) → ask_each system time (xs ++ ys) ≡ (ask_each system time xs >>= (λ _. ask_each system time ys))
  ask-append [] ys = refl
  ask-append (own ∷ xs) ys =
      ap (λ (rest : Result (Unit {0}) TurnEnd). at own.path (sent system own.leaf time) >>= (λ _. rest)) (ask-append xs ys)
      ∙ sym (bind-assoc (at own.path (sent system own.leaf time)) (λ _. ask_each system time xs) (λ _. ask_each system time ys))

  output-Leaf : (leaf : Leaf) (path : Path) → output system (sim.Leaf leaf) path time ≡ at path (sent system leaf time)
  output-Leaf leaf path =
      ap (λ (tree : Sim). output system tree path time) (sym (rolls-Leaf leaf))
      ∙ ap (λ (answer : Answer). answer path time) (fold-roll-Sim Answer KidAnswer Answer (output_step system) output_kid (output_net system) (layer.Leaf leaf))

  output-Net : (net : Net) (path : Path) →
      output system (sim.Net net) path time
      ≡ (sources_of system (map (kid_output system) (out-Net net).kids) (out-Net net).boss path time [] >>= (λ sources. Ok (gathered system.translate (out-Net net).links sources part.Net (system.network (out-Net net).model (out-Net net).args).outs)))
  output-Net net path =
      ap (λ (tree : Sim). output system tree path time) (sym (rolls-Net net))
      ∙ ap (λ (answer : Answer). answer path time) (fold-roll-Sim Answer KidAnswer Answer (output_step system) output_kid (output_net system) (layer.Net net))
      ∙ ap (λ (n : Net). output_of_net system n path time) (sym (roll-out-Net net))
      ∙ ap (λ (answer : Answer). answer path time) (fold-roll-Net Answer KidAnswer Answer (output_step system) output_kid (output_net system) (out-Net net))

  output-kid : (kid : Kid) (path : Path) →
      kid_output system kid path time ≡ (output system (out-Kid kid).sim (below path (name_of kid)) time >>= (λ ports. Ok (record { name = name_of kid; ports = ports })))
  output-kid kid path =
      ap (λ (k : Kid). kid_output system k path time) (sym (roll-out-Kid kid))
      ∙ ap (λ (answer : KidAnswer). answer path time) (fold-roll-Kid Answer KidAnswer Answer (output_step system) output_kid (output_net system) (out-Kid kid))

  abbrev pub Asks : Sim → Type 0
  Asks tree = (path : Path) → ending (output system tree path time) ≡ ask_each system time (seated tree path)

  asks-leaf : (leaf : Leaf) → Asks (sim.Leaf leaf)
  asks-leaf leaf path = ap ending (output-Leaf leaf path) ∙ ap (ask_each system time) (sym (seated-Leaf leaf path))

  -- what was asked does not matter to what follows
  asks-kids : {A : Type 0} (kids : List Kid) → AllByRecursion (λ kid. Asks (out-Kid kid).sim) kids → (path : Path) (given : List Given) (next : List Given → Result A TurnEnd) (last : Result (Unit {0}) TurnEnd) →
      ((all : List Given) → ending (next all) ≡ last) →
      ending (asked (map (kid_output system) kids) path time given >>= next) ≡ (ask_each system time (flat_map (λ kid. seated_of_kid kid path) kids) >>= (λ _. last))
  asks-kids [] asks path given next last ends = ends given
  asks-kids (kid ∷ kids) asks path given next last ends =
      let place = below path (name_of kid) in
      let rest = flat_map (λ kid. seated_of_kid kid path) kids in
      let own = output system (out-Kid kid).sim place time in
      let named : Ports → Result Given TurnEnd = λ ports. Ok (record { name = name_of kid; ports = ports }) in
      let others : Given → Result (List Given) TurnEnd = λ one. asked (map (kid_output system) kids) path time (given ++ one ∷ []) in
      ap ending (bind-assoc (kid_output system kid path time) others next)
      ∙ ap (λ (first : Result Given TurnEnd). ending (first >>= (λ one. others one >>= next))) (output-kid kid path)
      ∙ ap ending (bind-assoc own named (λ one. others one >>= next))
      ∙ bind-assoc own (λ ports. others (record { name = name_of kid; ports = ports }) >>= next) (λ _. Ok tt)
      ∙ (λ i. own >>= (λ ports. asks-kids kids asks.1 path (given ++ record { name = name_of kid; ports = ports } ∷ []) next last ends i))
      ∙ sym (bind-assoc own (λ _. Ok tt) (λ _. ask_each system time rest >>= (λ _. last)))
      ∙ ap (λ (first : Result (Unit {0}) TurnEnd). first >>= (λ _. ask_each system time rest >>= (λ _. last))) (asks.0 place ∙ ap (ask_each system time) (sym (seated-kid kid path)))
      ∙ sym (bind-assoc (ask_each system time (seated_of_kid kid path)) (λ _. ask_each system time rest) (λ _. last))
      ∙ ap (λ (first : Result (Unit {0}) TurnEnd). first >>= (λ _. last)) (sym (ask-append (seated_of_kid kid path) rest))

  asks-net : (net : Net) → AllByRecursion (λ kid. Asks (out-Kid kid).sim) (out-Net net).kids → Asks (sim.Net net)
  asks-net net asks path =
      let own = out-Net net in
      let boss = at (to_boss path) (sent system own.boss time) in
      let known : Ports → List Given → Result Sources TurnEnd = λ ports given. Ok (record { net = []; boss = ports; kids = given }) in
      let gather : Sources → Result Ports TurnEnd = λ sources. Ok (gathered system.translate own.links sources part.Net (system.network own.model own.args).outs) in
      let kids = asked (map (kid_output system) own.kids) path time [] in
      ap ending (output-Net net path)
      ∙ ap ending (bind-assoc kids (λ given. boss >>= (λ ports. known ports given)) gather)
      ∙ asks-kids own.kids asks path [] (λ given. (boss >>= (λ ports. known ports given)) >>= gather) (boss >>= (λ _. Ok tt))
      (λ all. ap ending (bind-assoc boss (λ ports. known ports all) gather) ∙ bind-assoc boss (λ ports. known ports all >>= gather) (λ _. Ok tt))
      ∙ sym (ask-append (flat_map (λ kid. seated_of_kid kid path) own.kids) (record { path = to_boss path; leaf = own.boss } ∷ []))
      ∙ ap (ask_each system time) (sym (seated-Net net path))

  pub asks : (tree : Sim) → Asks tree
  asks = each_tree Asks asks-leaf asks-net

  -- who is not due sends nothing, without a fault
  idle-by : (own : Seated) (due : Bool) (rest : List Seated) → is_due own.leaf time ≡ due →
      (at own.path (formal.◌>>=◌ (let found : Result (List Item) LeafEnd = cond due (output_leaf system own.leaf) (Ok []) in found) (λ items. Ok (by_port (component_of system own.leaf).outs items))) >>= (λ _. ask_each system time rest))
      ≡ ask_each system time (cond due (own ∷ rest) rest)
  idle-by own true rest is = ap (λ (due : Bool). at own.path (formal.◌>>=◌ (let found : Result (List Item) LeafEnd = cond due (output_leaf system own.leaf) (Ok []) in found) (λ items. Ok (by_port (component_of system own.leaf).outs items))) >>= (λ _. ask_each system time rest)) (sym is)
  idle-by own false rest is = refl

  pub due-asked : (list : List Seated) → ask_each system time list ≡ ask_each system time (due_ones time list)
  due-asked [] = refl
  due-asked (own ∷ list) =
      ap (λ (rest : Result (Unit {0}) TurnEnd). at own.path (sent system own.leaf time) >>= (λ _. rest)) (due-asked list)
      ∙ ap (λ (due : Bool). at own.path (formal.◌>>=◌ (let found : Result (List Item) LeafEnd = cond due (output_leaf system own.leaf) (Ok []) in found) (λ items. Ok (by_port (component_of system own.leaf).outs items))) >>= (λ _. ask_each system time (due_ones time list))) refl
      ∙ idle-by own (is_due own.leaf time) (due_ones time list) refl
