-- Each delivery is for the component or the executive at its path, and has all that comes there.
use Rattle.std.proofs.Common.{◌≡◌, ℕ, Bool, true, false, List, [], ◌∷◌, ◌++◌, map, length, Some, Result, Ok, Err, Ordering, Less, refl, sym, ◌∙◌, ap, subst, append_assoc, append-nil, is_eq, arith}
use Rattle.std.proofs.lemmas.Cmp.{tied_itself}
use Rattle.std.proofs.lemmas.List.{ext_get_or}
use Rattle.std.proofs.lemmas.List.FromFn.{get_or-map-range_with_len, length-map-range_with_len}
use Rattle.std.proofs.lemmas.Map.Keys.{IsDistinct-head, IsDistinct-tail, sorted_head, sorted_tail}
use Rattle.std.specs.Cmp.{IsTotalOrder}
use Rattle.std.specs.List.{AllByRecursion, IsDistinct, flat_map, range_with_len}
use Rattle.std.specs.Ordering.{ordering_reverse}
use Rattle.std.specs.Prelude.{if◌then◌else◌, slice_index_or}
use Rattle.dsde_sim_tree.specs.Tree.{name_of}
use Rattle.dsde_values.specs.declared.name.Name.{Name}
use Rattle.dsde_values.specs.declared.path.Path.{Path}
use Rattle.dsde_values.specs.declared.value.Value.{Value}
use Rattle.dsde_values.specs.Path.{name_cmp, path_cmp, root, EXEC}
use Rattle.dsde_sim_tree.specs.given.language.ids_ModelId.{ModelId}
use Rattle.dsde_sim_tree.specs.given.formalism.leaf_Leaf.{Leaf}
use Rattle.dsde_sim_tree.specs.given.formalism.Leaf.{component_of}
use Rattle.dsde_sim_tree.specs.given.formalism.System.{System, Ports}
use Rattle.dsde_sim_tree.specs.given.structure.plan_Link.{Link}
use Rattle.dsde_sim_tree.specs.given.structure.plan_Part_TheVariants as part
use Rattle.dsde_sim_tree.specs.given.structure.sources_Sources.{Sources}
use Rattle.dsde_sim_tree.specs.given.structure.Gather.{gather, gathered, is_same_name}
use Rattle.dsde_sim_tree.specs.declared.fault.TurnEnd.{TurnEnd}
use Rattle.dsde_sim_tree.specs.Told.{below, to_boss}
use Rattle.dsde_sim_tree.specs.declared.sim.Kid.{Kid}
use Rattle.dsde_sim_tree.specs.declared.sim.Net.{Net}
use Rattle.dsde_sim_tree.specs.declared.sim.Sim.{Sim}
use Rattle.dsde_sim_tree.specs.declared.sim.Sim.TheVariants as sim
use Rattle.dsde_sim_tree.specs.declared.sim.Sim.TheOpen as layer
use Rattle.dsde_sim_tree.specs.declared.sim.Sim.TheOpen.{Sim-F}
use Rattle.dsde_sim_tree.specs.declared.sim.Sim.TheViews.{out-Kid, out-Net}
use Rattle.dsde_sim_tree.specs.Move.{ins_of}
use Rattle.dsde_sim_tree.specs.Output.{sources_of, kid_output}
use Rattle.dsde_sim_tree.specs.lemmas.Trees.{each_tree}
use Rattle.dsde_sim_movers.specs.Deliveries.{Delivery, KidReceives, shared, deliveries, deliveries_of_kid, is_same_path, meant, received}
use Rattle.dsde_sim_movers.specs.lemmas.Events.{each-append}
use Rattle.dsde_sim_movers.specs.lemmas.Opens.{deliveries-Leaf, deliveries-Net, deliveries-kid}
use Rattle.dsde_sim_movers.specs.Movers.{Seat, seat_of, seat_behind, leaf_in, leaf_at, AreInPathOrder}
use Rattle.dsde_sim_movers.specs.Found.{IsFound}
use Rattle.dsde_sim_movers.specs.lemmas.Seats.{out-Leaf, whole, whole-of, same-kid, NoneNamed, boss-at-whole, drop-front, IsBehind, net_with, seat-in-net, leaf-within}
use Rattle.dsde_sim_movers.specs.lemmas.Beneath.{behind-kid}
use Rattle.dsde_sim_movers.proofs.MoverMoving.{none-before, seat-itself}
use Rattle.dsde_sim_movers.specs.lemmas.Named.{same_name, IsPlaced, names-of, net-places}

each-both : {X : Type 0} (P Q R : X → Type 0) → ((x : X) → P x → Q x → R x) → (xs : List X) → AllByRecursion P xs → AllByRecursion Q xs → AllByRecursion R xs
each-both P Q R gives [] ps qs = tt
each-both P Q R gives (x ∷ xs) ps qs = (gives x ps.0 qs.0, each-both P Q R gives xs ps.1 qs.1)

module _ (total : IsTotalOrder name_cmp) (system : System) where
  -- the delivery has a leaf, of its model, and a list for each of its ports
  pub record HasLeaf (path : Path) (tree : Sim) (own : Delivery) : Type 0 where
    pub leaf : Leaf
    pub there : leaf_at (seat_behind path own.path) tree ≡ Some leaf
    pub model : own.model ≡ leaf.model
    pub ports : length own.ports ≡ (component_of system leaf).ins

  abbrev pub HaveLeaves : Sim → Type 0
  HaveLeaves tree = (path : Path) (time : ℕ) (got : Ports) → IsPlaced tree → length got ≡ ins_of system tree → AllByRecursion (HasLeaf path tree) (deliveries system tree path time got)

  has-leaf : (leaf : Leaf) → HaveLeaves (sim.Leaf leaf)
  has-leaf leaf path time got placed ports =
      subst (AllByRecursion (HasLeaf path (sim.Leaf leaf))) (sym (deliveries-Leaf system leaf path time got)) (
        record {
          leaf = leaf;
          there = ap (λ (seat : Seat). leaf_at seat (sim.Leaf leaf)) (seat-itself path) ∙ ap (leaf_in false) (out-Leaf leaf);
          model = refl;
          ports = ports ∙ ap (λ (opened : Sim-F Sim Kid Net). let ins : ℕ = elim opened [
            | layer.Leaf leaf ↦ (component_of system leaf).ins
            | layer.Net net ↦ (system.network (out-Net net).model (out-Net net).args).ins
          ] in ins) (out-Leaf leaf);
        },
        tt,
      )

  module _ (model : ModelId) (args : List Value) (boss : Leaf) (links : List Link) (path : Path) (time : ℕ) (sources : Sources) where
    has-kid : (kid : Kid) → HaveLeaves (out-Kid kid).sim → IsPlaced (out-Kid kid).sim → is_same_name EXEC (name_of kid) ≡ false → (done kids : List Kid) → NoneNamed (name_of kid) done →
        AllByRecursion (HasLeaf path (whole model args boss (done ++ kid ∷ kids) links)) (deliveries_of_kid system kid path time links sources)
    has-kid kid has placed not_exec done kids none =
        let place = below path (name_of kid) in
        let got = gathered system.translate links sources (part.Kid (name_of kid)) (ins_of system (out-Kid kid).sim) in
        let tree = whole model args boss (done ++ kid ∷ kids) links in
        let own : AllByRecursion (HasLeaf place (out-Kid kid).sim) (deliveries_of_kid system kid path time links sources) =
        subst (AllByRecursion (HasLeaf place (out-Kid kid).sim)) (sym (deliveries-kid system kid path time links sources))
        (has place time got placed (length-map-range_with_len (λ port. gather system.translate links sources (record { part = part.Kid (name_of kid); port = port })) 0 (ins_of system (out-Kid kid).sim))) in
        each-both (HasLeaf place (out-Kid kid).sim) (λ (one : Delivery). IsBehind place one.path) (HasLeaf path tree)
        (λ one known behind. record {
          leaf = known.leaf;
          there = ap (λ (k : Kid). leaf_at (seat_behind path one.path) (whole model args boss (done ++ k ∷ kids) links)) (sym (same-kid kid))
              ∙ ap (λ (seat : Seat). leaf_at seat (net_with model args boss links done kids (name_of kid) (out-Kid kid).sim)) (seat-in-net (name_of kid) path one.path not_exec behind)
              ∙ leaf-within (same_name total) model args boss links done kids (name_of kid) none (seat_behind place one.path) (out-Kid kid).sim
              ∙ known.there;
          model = known.model;
          ports = known.ports;
        }) (deliveries_of_kid system kid path time links sources) own (behind-kid system kid path time links sources)

    has-kids : (tree : Sim) (kids : List Kid) → AllByRecursion (λ kid. HaveLeaves (out-Kid kid).sim) kids → AllByRecursion (λ kid. IsPlaced (out-Kid kid).sim) kids →
        AllByRecursion (λ kid. is_same_name EXEC (name_of kid) ≡ false) kids → (done : List Kid) → IsDistinct is_same_name (map name_of (done ++ kids)) → tree ≡ whole model args boss (done ++ kids) links →
        AllByRecursion (HasLeaf path tree) (flat_map (λ (kid : KidReceives). kid path time links sources) (map (deliveries_of_kid system) kids))
    has-kids tree [] has placed not_exec done distinct is = tt
    has-kids tree (kid ∷ kids) has placed not_exec done distinct is =
        let again = append_assoc done (kid ∷ []) kids in
        each-append (HasLeaf path tree) (deliveries_of_kid system kid path time links sources) _
        (subst (λ (t : Sim). AllByRecursion (HasLeaf path t) (deliveries_of_kid system kid path time links sources)) (sym is)
        (has-kid kid has.0 placed.0 not_exec.0 done kids (none-before is_same_name done kid kids distinct)))
        (has-kids tree kids has.1 placed.1 not_exec.1 (done ++ kid ∷ []) (subst (λ (all : List Kid). IsDistinct is_same_name (map name_of all)) (sym again) distinct)
        (is ∙ ap (λ (all : List Kid). whole model args boss all links) (sym again)))

    has-boss : (kids : List Kid) (ports : Ports) → length ports ≡ (component_of system boss).ins → HasLeaf path (whole model args boss kids links) (record { path = to_boss path; model = boss.model; ports = ports })
    has-boss kids ports is = record {
      leaf = boss;
      there = ap (λ (names : List Name). leaf_at (seat_of names) (whole model args boss kids links)) (drop-front path.names (EXEC ∷ []))
          ∙ ap (λ (here : Bool). let seat : Seat = if here then record { names = []; is_boss = true } else record { names = EXEC ∷ []; is_boss = false } in leaf_at seat (whole model args boss kids links)) (same_name total EXEC)
          ∙ boss-at-whole model args boss kids links;
      model = refl;
      ports = is;
    }

  has-sources : (net : Net) → AllByRecursion (λ kid. HaveLeaves (out-Kid kid).sim) (out-Net net).kids → IsPlaced (sim.Net net) → (path : Path) (time : ℕ) (found : Result Sources TurnEnd) →
      (let list : List Delivery = elim found [
        | Ok sources ↦ shared system (out-Net net).boss (map (deliveries_of_kid system) (out-Net net).kids) (out-Net net).links path time sources
        | Err end ↦ []
      ] in AllByRecursion (HasLeaf path (sim.Net net)) list)
  has-sources net has placed path time (Ok sources) =
      let own = out-Net net in
      let places = net-places net placed in
      let names = map name_of own.kids in
      each-append (HasLeaf path (sim.Net net)) _ _
      (has-kids own.model own.args own.boss own.links path time sources (sim.Net net) own.kids has places.1
      (names-of (λ name. is_same_name EXEC name ≡ false) own.kids (IsDistinct-head is_same_name EXEC names places.0)) [] (IsDistinct-tail is_same_name EXEC names places.0) (whole-of net)) (
        subst (λ (t : Sim). HasLeaf path t (record { path = to_boss path; model = own.boss.model; ports = gathered system.translate own.links sources part.Boss (component_of system own.boss).ins })) (sym (whole-of net))
            (has-boss own.model own.args own.boss own.links path time sources own.kids _
            (length-map-range_with_len (λ port. gather system.translate own.links sources (record { part = part.Boss; port = port })) 0 (component_of system own.boss).ins)),
        tt,
      )
  has-sources net has placed path time (Err end) = tt

  has-net : (net : Net) → AllByRecursion (λ kid. HaveLeaves (out-Kid kid).sim) (out-Net net).kids → HaveLeaves (sim.Net net)
  has-net net has path time got placed ports =
      subst (AllByRecursion (HasLeaf path (sim.Net net))) (sym (deliveries-Net system net path time got))
      (has-sources net has placed path time (sources_of system (map (kid_output system) (out-Net net).kids) (out-Net net).boss path time got))

  pub have-leaves : (tree : Sim) → HaveLeaves tree
  have-leaves = each_tree HaveLeaves has-leaf has-net

  -- paths in path order differ
  module _ (paths : IsTotalOrder path_cmp) where
    differ : (own other : Path) → path_cmp own other ≡ Less → is_same_path own other ≡ false
    differ own other less = ap is_eq less

    differ-back : (own other : Path) → path_cmp own other ≡ Less → is_same_path other own ≡ false
    differ-back own other less = ap is_eq (paths.antisymm other own ∙ ap ordering_reverse less)

    abbrev by_path : Delivery → Delivery → Ordering
    by_path own other = path_cmp own.path other.path

    meant-else : (path : Path) (port : ℕ) (own : Delivery) → is_same_path own.path path ≡ false → meant path port own ≡ []
    meant-else path port own is = ap (λ (here : Bool). if here then slice_index_or own.ports port [] else []) is

    meant-here : (port : ℕ) (own : Delivery) → meant own.path port own ≡ slice_index_or own.ports port []
    meant-here port own = ap (λ (here : Bool). if here then slice_index_or own.ports port [] else []) (ap is_eq (tied_itself paths own.path))

    meant-none : (path : Path) (port : ℕ) (list : List Delivery) → AllByRecursion (λ (other : Delivery). path_cmp path other.path ≡ Less) list → flat_map (meant path port) list ≡ []
    meant-none path port [] less = refl
    meant-none path port (other ∷ list) less = (λ i. meant-else path port other (differ-back path other.path less.0) i ++ meant-none path port list less.1 i)

    -- what is meant for a path is in the one delivery for it
    pub meant-once : (port : ℕ) (list : List Delivery) → AreInPathOrder list → AllByRecursion (λ (own : Delivery). flat_map (meant own.path port) list ≡ slice_index_or own.ports port []) list
    meant-once port [] walk = tt
    meant-once port (first ∷ list) walk = (
      (λ i. meant-here port first i ++ meant-none first.path port list (sorted_head by_path first list walk) i) ∙ append-nil (slice_index_or first.ports port []),
      each-both (λ (own : Delivery). flat_map (meant own.path port) list ≡ slice_index_or own.ports port []) (λ (own : Delivery). path_cmp first.path own.path ≡ Less)
          (λ (own : Delivery). flat_map (meant own.path port) (first ∷ list) ≡ slice_index_or own.ports port [])
          (λ own is less. ap (λ front. front ++ flat_map (meant own.path port) list) (meant-else own.path port first (differ first.path own.path less)) ∙ is)
          list (meant-once port list (sorted_tail by_path first list walk)) (sorted_head by_path first list walk),
    )

    all-swap : {X : Type 0} (P : ℕ → X → Type 0) (xs : List X) → ((k : ℕ) → AllByRecursion (P k) xs) → AllByRecursion (λ x. (k : ℕ) → P k x) xs
    all-swap P [] all = tt
    all-swap P (x ∷ xs) all = (λ k. (all k).0, all-swap P xs (λ k. (all k).1))

    as-list : (ports : Ports) → ports ≡ map (λ port. slice_index_or ports port []) (range_with_len 0 (length ports))
    as-list ports =
        ext_get_or [] ports (map (λ port. slice_index_or ports port []) (range_with_len 0 (length ports))) (sym (length-map-range_with_len (λ port. slice_index_or ports port []) 0 (length ports)))
        (λ i within. sym (get_or-map-range_with_len (λ port. slice_index_or ports port []) 0 (length ports) i i [] within (omega arith)))

    -- Each delivery in a tree is what comes to the component or the executive at its path.
    pub all-found : (tree : Sim) (time : ℕ) (got : Ports) → IsPlaced tree → length got ≡ ins_of system tree → AreInPathOrder (deliveries system tree root time got) →
        AllByRecursion (IsFound system tree time got) (deliveries system tree root time got)
    all-found tree time got placed ports walk =
        let list = deliveries system tree root time got in
        each-both (HasLeaf root tree) (λ (own : Delivery). (port : ℕ) → flat_map (meant own.path port) list ≡ slice_index_or own.ports port []) (IsFound system tree time got)
        (λ own known is.
        let found : Ports = map (λ port. received system tree own.path port time got) (range_with_len 0 (component_of system known.leaf).ins) in
        let same_ports : own.ports ≡ found =
        as-list own.ports
        ∙ (λ i. map (λ port. sym (is port) i) (range_with_len 0 (length own.ports)))
        ∙ ap (λ (n : ℕ). map (λ port. received system tree own.path port time got) (range_with_len 0 n)) known.ports in
        record {
          leaf = known.leaf;
          there = known.there;
          is = λ i. record { path = own.path; model = known.model i; ports = same_ports i };
        })
        list (have-leaves tree root time got placed ports) (all-swap (λ port (own : Delivery). flat_map (meant own.path port) list ≡ slice_index_or own.ports port []) list (λ port. meant-once port list walk))
