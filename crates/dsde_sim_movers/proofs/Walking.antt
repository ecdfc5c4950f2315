-- Who is delivered to stands in path order.
use Rattle.std.proofs.Common.{◌≡◌, ℕ, Bool, true, false, List, [], ◌∷◌, ◌++◌, map, Result, Ok, Err, Ordering, Less, refl, sym, ◌∙◌, ap, subst, None, append_assoc, append-nil}
use Rattle.std.proofs.lemmas.Cmp.{tied_itself}
use Rattle.std.proofs.lemmas.Map.Keys.{sorted_head, sorted_tail}
use Rattle.std.specs.Cmp.{IsTotalOrder}
use Rattle.std.specs.Cmp.Lexicographic.{slice_cmp}
use Rattle.std.specs.List.{AllByRecursion, flat_map, filter}
use Rattle.std.specs.List.Sorted.{IsStrictlySortedBy}
use Rattle.std.specs.Option.{option_cmp}
use Rattle.std.specs.Ordering.{bool_cmp, nat_cmp, ordering_then}
use Rattle.std.specs.Prelude.{cond}
use Rattle.dsde_sim_tree.specs.Tree.{name_of}
use Rattle.dsde_values.specs.declared.name.Name.{Name}
use Rattle.dsde_values.specs.declared.path.Path.{Path}
use Rattle.dsde_values.specs.Path.{EXEC, is_executive, name_cmp, path_cmp}
use Rattle.dsde_sim_tree.specs.given.formalism.leaf_Leaf.{Leaf}
use Rattle.dsde_sim_tree.specs.given.formalism.Leaf.{component_of}
use Rattle.dsde_sim_tree.specs.given.formalism.System.{System, Ports}
use Rattle.dsde_sim_tree.specs.given.structure.plan_Link.{Link}
use Rattle.dsde_sim_tree.specs.given.structure.plan_Part_TheVariants as part
use Rattle.dsde_sim_tree.specs.given.structure.sources_Sources.{Sources}
use Rattle.dsde_sim_tree.specs.given.structure.Gather.{gathered, is_same_name}
use Rattle.dsde_sim_tree.specs.given.structure.Survival.{AreInOrder}
use Rattle.dsde_sim_tree.specs.declared.fault.TurnEnd.{TurnEnd}
use Rattle.dsde_sim_tree.specs.Told.{below, to_boss}
use Rattle.dsde_sim_tree.specs.declared.sim.Kid.{Kid}
use Rattle.dsde_sim_tree.specs.declared.sim.Net.{Net}
use Rattle.dsde_sim_tree.specs.declared.sim.Sim.{Sim}
use Rattle.dsde_sim_tree.specs.declared.sim.Sim.TheVariants as sim
use Rattle.dsde_sim_tree.specs.declared.sim.Sim.TheViews.{out-Kid, out-Net}
use Rattle.dsde_sim_tree.specs.Move.{ins_of}
use Rattle.dsde_sim_tree.specs.Output.{sources_of, kid_output}
use Rattle.dsde_sim_tree.specs.lemmas.Trees.{each_tree}
use Rattle.dsde_sim_movers.specs.Deliveries.{Delivery, KidReceives, shared, deliveries, deliveries_of_kid}
use Rattle.dsde_sim_movers.specs.lemmas.Events.{each-append, each-weaker, each-filter}
use Rattle.dsde_sim_movers.specs.lemmas.Opens.{deliveries-Leaf, deliveries-Net, deliveries-kid}
use Rattle.dsde_sim_movers.specs.Names.{IsNamed}
use Rattle.dsde_sim_movers.specs.Movers.{is_mover, movers, AreInPathOrder}
use Rattle.dsde_sim_movers.specs.lemmas.Seats.{IsBehind}
use Rattle.dsde_sim_movers.specs.lemmas.Beneath.{behind-kid}
use Rattle.dsde_sim_movers.specs.lemmas.Named.{not-executive, names-of, net-names}

module _ {X : Type 0} (c : X → X → Ordering) where
  sorted-cons : (x : X) (xs : List X) → AllByRecursion (λ y. c x y ≡ Less) xs → IsStrictlySortedBy c xs → IsStrictlySortedBy c (x ∷ xs)
  unfolding IsStrictlySortedBy
  sorted-cons x xs first later = (first, later)

  sorted-none : IsStrictlySortedBy c []
  unfolding IsStrictlySortedBy
  sorted-none = tt

  sorted-append : (xs ys : List X) → IsStrictlySortedBy c xs → IsStrictlySortedBy c ys → AllByRecursion (λ x. AllByRecursion (λ y. c x y ≡ Less) ys) xs → IsStrictlySortedBy c (xs ++ ys)
  sorted-append [] ys first later across = later
  sorted-append (x ∷ xs) ys first later across =
      sorted-cons x (xs ++ ys) (each-append (λ y. c x y ≡ Less) xs ys (sorted_head c x xs first) across.0) (sorted-append xs ys (sorted_tail c x xs first) later across.1)

  sorted-filter-by : (test : X → Bool) (x : X) (xs : List X) (here : Bool) → AllByRecursion (λ y. c x y ≡ Less) (filter test xs) → IsStrictlySortedBy c (filter test xs) →
      IsStrictlySortedBy c (cond here (x ∷ filter test xs) (filter test xs))
  sorted-filter-by test x xs true first later = sorted-cons x (filter test xs) first later
  sorted-filter-by test x xs false first later = later

  pub sorted-filter : (test : X → Bool) (xs : List X) → IsStrictlySortedBy c xs → IsStrictlySortedBy c (filter test xs)
  sorted-filter test [] sorted = sorted
  sorted-filter test (x ∷ xs) sorted =
      sorted-filter-by test x xs (test x) (each-filter (λ y. c x y ≡ Less) test xs (sorted_head c x xs sorted)) (sorted-filter test xs (sorted_tail c x xs sorted))

module _ (total : IsTotalOrder name_cmp) where
  -- names that have the same in front
  front-same : (xs ys zs : List Name) → slice_cmp name_cmp (xs ++ ys) (xs ++ zs) ≡ slice_cmp name_cmp ys zs
  front-same [] ys zs = refl
  front-same (x ∷ xs) ys zs = ap (λ (order : Ordering). ordering_then order (slice_cmp name_cmp (xs ++ ys) (xs ++ zs))) (tied_itself total x) ∙ front-same xs ys zs

  -- behind two names of a network
  behind-names : (path : Path) (name later : Name) → name_cmp name later ≡ Less → (own other : Path) → IsBehind (below path name) own → IsBehind (below path later) other → path_cmp own other ≡ Less
  behind-names path name later less own other behind behind_other =
      (λ i. slice_cmp name_cmp ((behind.1 ∙ append_assoc path.names (name ∷ []) behind.0) i) ((behind_other.1 ∙ append_assoc path.names (later ∷ []) behind_other.0) i))
      ∙ front-same path.names (name ∷ behind.0) (later ∷ behind_other.0)
      ∙ ap (λ (order : Ordering). ordering_then order (slice_cmp name_cmp behind.0 behind_other.0)) less

module _ (total : IsTotalOrder name_cmp) (system : System) where
  -- a component comes before the executive
  name-boss : (name : Name) → is_same_name EXEC name ≡ false → name_cmp name EXEC ≡ Less
  name-boss name other =
      let one : is_executive name ≡ false = not-executive total name other in
      λ i. ordering_then (ordering_then (bool_cmp (one i) true) (slice_cmp nat_cmp name.stem EXEC.stem)) (option_cmp nat_cmp name.index None)

  module _ (path : Path) (time : ℕ) (links : List Link) (sources : Sources) where
    abbrev NotExec : Kid → Type 0
    NotExec kid = is_same_name EXEC (name_of kid) ≡ false

    abbrev of_kid : Kid → List Delivery
    of_kid kid = deliveries_of_kid system kid path time links sources

    abbrev of_kids : List Kid → List Delivery
    of_kids kids = flat_map (λ (kid : KidReceives). kid path time links sources) (map (deliveries_of_kid system) kids)

    across-kids : (name : Name) → is_same_name EXEC name ≡ false → (kids : List Kid) → AllByRecursion NotExec kids → AllByRecursion (λ kid. name_cmp name (name_of kid) ≡ Less) kids →
        (own : Delivery) → IsBehind (below path name) own.path → AllByRecursion (λ other. path_cmp own.path other.path ≡ Less) (of_kids kids)
    across-kids name not_exec [] not_execs less own behind = tt
    across-kids name not_exec (kid ∷ kids) not_execs less own behind =
        each-append (λ other. path_cmp own.path other.path ≡ Less) (of_kid kid) (of_kids kids)
        (each-weaker (λ (other : Delivery). IsBehind (below path (name_of kid)) other.path) (λ other. path_cmp own.path other.path ≡ Less)
        (λ other. behind-names total path name (name_of kid) less.0 own.path other.path behind) (of_kid kid) (behind-kid system kid path time links sources))
        (across-kids name not_exec kids not_execs.1 less.1 own behind)

    kids-under : (boss : Delivery) → boss.path ≡ to_boss path → (kids : List Kid) → AllByRecursion NotExec kids → AllByRecursion (λ own. AllByRecursion (λ other. path_cmp own.path other.path ≡ Less) (boss ∷ [])) (of_kids kids)
    kids-under boss is [] not_execs = tt
    kids-under boss is (kid ∷ kids) not_execs =
        each-append (λ own. AllByRecursion (λ other. path_cmp own.path other.path ≡ Less) (boss ∷ [])) (of_kid kid) (of_kids kids)
        (each-weaker (λ (own : Delivery). IsBehind (below path (name_of kid)) own.path) (λ own. AllByRecursion (λ other. path_cmp own.path other.path ≡ Less) (boss ∷ []))
        (λ own behind. (behind-names total path (name_of kid) EXEC (name-boss (name_of kid) not_execs.0) own.path boss.path behind ([], ap (λ (p : Path). p.names) is ∙ sym (append-nil (path.names ++ EXEC ∷ []))), tt))
        (of_kid kid) (behind-kid system kid path time links sources))
        (kids-under boss is kids not_execs.1)

  abbrev pub WalksUp : Sim → Type 0
  WalksUp tree = (path : Path) (time : ℕ) (got : Ports) → IsNamed tree → AreInPathOrder (deliveries system tree path time got)

  abbrev by_path : Delivery → Delivery → Ordering
  by_path own other = path_cmp own.path other.path

  walks-leaf : (leaf : Leaf) → WalksUp (sim.Leaf leaf)
  walks-leaf leaf path time got named = subst AreInPathOrder (sym (deliveries-Leaf system leaf path time got)) (sorted-cons by_path (record { path = path; model = leaf.model; ports = got }) [] tt (sorted-none by_path))

  walks-kids : (kids : List Kid) → AllByRecursion (λ kid. WalksUp (out-Kid kid).sim) kids → AllByRecursion (λ kid. IsNamed (out-Kid kid).sim) kids → (path : Path) (time : ℕ) (links : List Link) (sources : Sources) →
      AllByRecursion (NotExec path time links sources) kids → AreInOrder (map name_of kids) → AreInPathOrder (of_kids path time links sources kids)
  walks-kids [] walks named path time links sources not_exec order = sorted-none by_path
  walks-kids (kid ∷ kids) walks named path time links sources not_exec order =
      let place = below path (name_of kid) in
      let own = of_kid path time links sources kid in
      let names = map name_of kids in
      sorted-append by_path own (of_kids path time links sources kids)
      (subst AreInPathOrder (sym (deliveries-kid system kid path time links sources))
      (walks.0 place time (gathered system.translate links sources (part.Kid (name_of kid)) (ins_of system (out-Kid kid).sim)) named.0))
      (walks-kids kids walks.1 named.1 path time links sources not_exec.1 (sorted_tail name_cmp (name_of kid) names order))
      (each-weaker (λ (one : Delivery). IsBehind place one.path) (λ one. AllByRecursion (λ other. path_cmp one.path other.path ≡ Less) (of_kids path time links sources kids))
      (λ one. across-kids path time links sources (name_of kid) not_exec.0 kids not_exec.1
      (names-of (λ name. name_cmp (name_of kid) name ≡ Less) kids (sorted_head name_cmp (name_of kid) names order)) one)
      own (behind-kid system kid path time links sources))

  walks-sources : (net : Net) → AllByRecursion (λ kid. WalksUp (out-Kid kid).sim) (out-Net net).kids → IsNamed (sim.Net net) → (path : Path) (time : ℕ) (found : Result Sources TurnEnd) →
      (let list : List Delivery = elim found [
        | Ok sources ↦ shared system (out-Net net).boss (map (deliveries_of_kid system) (out-Net net).kids) (out-Net net).links path time sources
        | Err end ↦ []
      ] in AreInPathOrder list)
  walks-sources net walks named path time (Ok sources) =
      let own = out-Net net in
      let known = net-names net named in
      let boss : Delivery = record { path = to_boss path; model = own.boss.model; ports = gathered system.translate own.links sources part.Boss (component_of system own.boss).ins } in
      sorted-append by_path (of_kids path time own.links sources own.kids) (boss ∷ [])
      (walks-kids own.kids walks known.2 path time own.links sources known.1 known.0)
      (sorted-cons by_path boss [] tt (sorted-none by_path))
      (kids-under path time own.links sources boss refl own.kids known.1)
  walks-sources net walks named path time (Err end) = sorted-none by_path

  walks-net : (net : Net) → AllByRecursion (λ kid. WalksUp (out-Kid kid).sim) (out-Net net).kids → WalksUp (sim.Net net)
  walks-net net walks path time got named =
      subst AreInPathOrder (sym (deliveries-Net system net path time got))
      (walks-sources net walks named path time (sources_of system (map (kid_output system) (out-Net net).kids) (out-Net net).boss path time got))

  pub walks-up : (tree : Sim) → WalksUp tree
  walks-up = each_tree WalksUp walks-leaf walks-net

  -- so do those who move
  pub movers-walk : (tree : Sim) (path : Path) (time : ℕ) (got : Ports) → IsNamed tree → AreInPathOrder (movers system tree path time got)
  movers-walk tree path time got named = sorted-filter by_path (is_mover tree path time) (deliveries system tree path time got) (walks-up tree path time got named)
