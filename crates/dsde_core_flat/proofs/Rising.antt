-- Places stand in path order.
use Rattle.std.proofs.Common.{◌≡◌, Bool, true, false, cond, List, [], ◌∷◌, ◌++◌, map, filter, Option, Some, None, Ordering, Less, refl, sym, ap, subst, ◌∙◌, append_assoc, append-nil}
use Rattle.std.proofs.lemmas.Cmp.{tied_itself}
use Rattle.std.proofs.lemmas.Map.Keys.{sorted_head, sorted_tail}
use Rattle.std.proofs.lemmas.List.Elements.{filter-append}
use Rattle.std.specs.Cmp.Lexicographic.{slice_cmp}
use Rattle.std.specs.List.{flat_map, AllByRecursion}
use Rattle.std.specs.List.Sorted.{IsStrictlySortedBy}
use Rattle.std.specs.Ordering.{bool_cmp, nat_cmp, on, ordering_then}
use Rattle.std.specs.Option.{option_cmp}
use Rattle.dsde_bank.specs.declared.handle.Handle.{Handle}
use Rattle.dsde_values.specs.declared.name.Name.{Name}
use Rattle.dsde_values.specs.declared.path.Path.{Path}
use Rattle.dsde_values.specs.Path.{is_executive, name_cmp, path_cmp}
use Rattle.dsde_routes_wiring.specs.given.structure.Gather.{is_same_name}
use Rattle.dsde_routes_wiring.specs.given.structure.Survival.{AreInOrder}
use Rattle.dsde_values.specs.Path.{EXEC}
use Rattle.dsde_sim_tree.specs.Told.{below, to_boss}
use Rattle.dsde_sim_tree.specs.declared.sim.Kid.{Kid}
use Rattle.dsde_sim_tree.specs.declared.sim.Net.{Net}
use Rattle.dsde_sim_tree.specs.declared.sim.Sim.{Sim}
use Rattle.dsde_sim_tree.specs.declared.sim.Sim.TheVariants as sim
use Rattle.dsde_sim_tree.specs.declared.sim.Sim.TheOpen.{Net-F, Kid-F}
use Rattle.dsde_sim_tree.specs.declared.sim.Sim.TheViews.{out-Kid, out-Net, out-roll-Kid, out-roll-Net}
use Rattle.dsde_sim_movers.specs.Names.{IsNamed}
use Rattle.dsde_sim_movers.specs.lemmas.Named.{net-names, not-executive}
use Rattle.dsde_sim_tree.specs.Tree.{name_of}
use Rattle.dsde_core_flat.specs.lemmas.Names.{names-total}
use Rattle.dsde_routes_wiring.specs.declared.wiring.Wiring.{Wiring}
use Rattle.dsde_routes_wiring.specs.declared.wiring.WiredKid.{WiredKid}
use Rattle.dsde_routes_wiring.specs.declared.wiring.WiredKid.TheViews.{out-Wiring, out-WiredKid}
use Rattle.dsde_core_flat.specs.Shown.{Look, leaf_in, model_in, args_in, net_under, kid_under, part_under}
use Rattle.dsde_core_flat.specs.Places.{Place, place, net_places, kid_places, part_places}
use Rattle.dsde_core_flat.specs.lemmas.Opened.{kid-shows, net-shows, kid-stands, net-stands, OfKid}
use Rattle.dsde_routes_wiring.specs.Opened.{each_wiring, Beneath}
use Rattle.dsde_core_flat.specs.lemmas.Frame.{all-join}
use Rattle.dsde_core_flat.specs.lemmas.Beneath.{all-map, IsBeneath, places-beneath}
use Rattle.dsde_core_flat.proofs.Seats.{is_seat}

module _ {X : Type 0} (c : X → X → Ordering) where
  pub sorted-cons : (x : X) (xs : List X) → AllByRecursion (λ y. c x y ≡ Less) xs → IsStrictlySortedBy c xs → IsStrictlySortedBy c (x ∷ xs)
  unfolding IsStrictlySortedBy
  sorted-cons x xs first later = (first, later)

  pub sorted-none : IsStrictlySortedBy c []
  unfolding IsStrictlySortedBy
  sorted-none = tt

  pub sorted-append : (xs ys : List X) → IsStrictlySortedBy c xs → IsStrictlySortedBy c ys → AllByRecursion (λ x. AllByRecursion (λ y. c x y ≡ Less) ys) xs → IsStrictlySortedBy c (xs ++ ys)
  sorted-append [] ys first later across = later
  sorted-append (x ∷ xs) ys first later across =
      sorted-cons x (xs ++ ys) (all-join (λ y. c x y ≡ Less) xs ys (sorted_head c x xs first) across.0) (sorted-append xs ys (sorted_tail c x xs first) later across.1)

pub all-filter : {X : Type 0} (P : X → Type 0) (test : X → Bool) (xs : List X) → AllByRecursion P xs → AllByRecursion P (filter test xs)
all-filter P test [] all = tt
all-filter {X} P test (x ∷ xs) all = by-test (test x) (all-filter P test xs all.1)
  where
    by-test : (b : Bool) → AllByRecursion P (filter test xs) → AllByRecursion P (cond b (x ∷ filter test xs) (filter test xs))
    by-test true later = (all.0, later)
    by-test false later = later

-- places in path order
abbrev pub by_path : Place → Place → Ordering
by_path = on (λ at. at.path) path_cmp

front-same : (xs ys zs : List Name) → slice_cmp name_cmp (xs ++ ys) (xs ++ zs) ≡ slice_cmp name_cmp ys zs
front-same [] ys zs = refl
front-same (x ∷ xs) ys zs = ap (λ (order : Ordering). ordering_then order (slice_cmp name_cmp (xs ++ ys) (xs ++ zs))) (tied_itself names-total x) ∙ front-same xs ys zs

-- what stands behind an earlier name comes before what stands behind a later one
behind-names : (names : List Name) (name later : Name) → name_cmp name later ≡ Less → (own other : Place) → IsBeneath (names ++ name ∷ []) own → IsBeneath (names ++ later ∷ []) other → by_path own other ≡ Less
behind-names names name later less own other behind behind_other =
    (λ i. slice_cmp name_cmp ((behind.is ∙ append_assoc names (name ∷ []) behind.rest) i) ((behind_other.is ∙ append_assoc names (later ∷ []) behind_other.rest) i))
    ∙ front-same names (name ∷ behind.rest) (later ∷ behind_other.rest)
    ∙ ap (λ (order : Ordering). ordering_then order (slice_cmp name_cmp behind.rest behind_other.rest)) less

name-boss : (name : Name) → is_same_name EXEC name ≡ false → name_cmp name EXEC ≡ Less
name-boss name other =
    let one : is_executive name ≡ false = not-executive names-total name other in
    λ i. ordering_then (ordering_then (bool_cmp (one i) true) (slice_cmp nat_cmp name.stem EXEC.stem)) (option_cmp nat_cmp name.index None)

abbrev its_name : WiredKid → Name
its_name kid = (out-WiredKid kid).name

abbrev IsNoExec : WiredKid → Type 0
IsNoExec kid = is_same_name EXEC (its_name kid) ≡ false

abbrev seat_places : List Place → List Place
seat_places ats = filter is_seat ats

kid-beneath : (kid : WiredKid) (path : Path) → AllByRecursion (IsBeneath (path.names ++ its_name kid ∷ [])) (seat_places (kid_places kid path))
kid-beneath kid path =
    all-filter (IsBeneath (path.names ++ its_name kid ∷ [])) is_seat (kid_places kid path)
    (subst (AllByRecursion (IsBeneath (path.names ++ its_name kid ∷ []))) (sym (kid-stands kid path))
    (places-beneath (out-WiredKid kid).handle (below path (out-WiredKid kid).name) (out-WiredKid kid).below))

abbrev of_kids : Path → List WiredKid → List Place
of_kids path kids = flat_map (λ (kid : WiredKid). kid_places kid path) kids

-- one place before those of later components
across-kids : (path : Path) (name : Name) → is_same_name EXEC name ≡ false → (kids : List WiredKid) → AllByRecursion IsNoExec kids → AllByRecursion (λ kid. name_cmp name (its_name kid) ≡ Less) kids →
    (own : Place) → IsBeneath (path.names ++ name ∷ []) own → AllByRecursion (λ other. by_path own other ≡ Less) (seat_places (of_kids path kids))
across-kids path name not_exec [] not_execs less own behind = tt
across-kids path name not_exec (kid ∷ kids) not_execs less own behind =
    subst (AllByRecursion (λ (other : Place). by_path own other ≡ Less)) (sym (filter-append is_seat (kid_places kid path) (of_kids path kids)))
    (all-join (λ other. by_path own other ≡ Less) (seat_places (kid_places kid path)) (seat_places (of_kids path kids))
    (all-map (IsBeneath (path.names ++ its_name kid ∷ [])) (λ other. by_path own other ≡ Less)
    (λ other. behind-names path.names name (its_name kid) less.0 own other behind) (seat_places (kid_places kid path)) (kid-beneath kid path))
    (across-kids path name not_exec kids not_execs.1 less.1 own behind))

kids-under : (path : Path) (boss : Place) → boss.path ≡ to_boss path → (kids : List WiredKid) → AllByRecursion IsNoExec kids →
    AllByRecursion (λ own. AllByRecursion (λ other. by_path own other ≡ Less) (boss ∷ [])) (seat_places (of_kids path kids))
kids-under path boss is [] not_execs = tt
kids-under path boss is (kid ∷ kids) not_execs =
    subst (AllByRecursion (λ (own : Place). AllByRecursion (λ (other : Place). by_path own other ≡ Less) (boss ∷ []))) (sym (filter-append is_seat (kid_places kid path) (of_kids path kids)))
    (all-join (λ own. AllByRecursion (λ other. by_path own other ≡ Less) (boss ∷ [])) (seat_places (kid_places kid path)) (seat_places (of_kids path kids))
    (all-map (IsBeneath (path.names ++ its_name kid ∷ [])) (λ own. AllByRecursion (λ other. by_path own other ≡ Less) (boss ∷ []))
    (λ own behind. (
      behind-names path.names (its_name kid) EXEC (name-boss (its_name kid) not_execs.0) own boss behind
          (record { rest = []; is = ap (λ (p : Path). p.names) is ∙ sym (append-nil (path.names ++ EXEC ∷ [])) }),
      tt,
    ))
    (seat_places (kid_places kid path)) (kid-beneath kid path))
    (kids-under path boss is kids not_execs.1))

module _ (look : Look) where
  abbrev Rises : Wiring → Type 0
  Rises net = (handle : Handle) (path : Path) → IsNamed (sim.Net (net_under look net handle)) → IsStrictlySortedBy by_path (seat_places (net_places net path))

  part-rises : (handle : Handle) (path : Path) (own : Option Wiring) → Beneath Rises own → IsNamed (part_under look handle own) → IsStrictlySortedBy by_path (seat_places (part_places handle path own))
  part-rises handle path None known named = sorted-cons by_path (place handle path false) [] tt (sorted-none by_path)
  part-rises handle path (Some net) known named = known handle path named

  -- a component's name and what it is, in the tree and in the wiring
  shown-name : (kid : WiredKid) → name_of (kid_under look kid) ≡ its_name kid
  shown-name kid =
      let made : Kid-F Sim Kid Net = record { name = its_name kid; sim = part_under look (out-WiredKid kid).handle (out-WiredKid kid).below } in
      ap name_of (kid-shows look kid) ∙ ap (λ (k : Kid-F Sim Kid Net). k.name) (out-roll-Kid made)

  shown-sim : (kid : WiredKid) → (out-Kid (kid_under look kid)).sim ≡ part_under look (out-WiredKid kid).handle (out-WiredKid kid).below
  shown-sim kid =
      let made : Kid-F Sim Kid Net = record { name = its_name kid; sim = part_under look (out-WiredKid kid).handle (out-WiredKid kid).below } in
      ap (λ (k : Kid). (out-Kid k).sim) (kid-shows look kid) ∙ ap (λ (k : Kid-F Sim Kid Net). k.sim) (out-roll-Kid made)

  shown-names : (kids : List WiredKid) → map name_of (map (kid_under look) kids) ≡ map its_name kids
  shown-names [] = refl
  shown-names (kid ∷ kids) = λ i. shown-name kid i ∷ shown-names kids i

  no-execs : (kids : List WiredKid) → AllByRecursion (λ (kid : Kid). is_same_name EXEC (name_of kid) ≡ false) (map (kid_under look) kids) → AllByRecursion IsNoExec kids
  no-execs [] all = tt
  no-execs (kid ∷ kids) all = (ap (is_same_name EXEC) (sym (shown-name kid)) ∙ all.0, no-execs kids all.1)

  names-of : (P : Name → Type 0) (kids : List WiredKid) → AllByRecursion P (map its_name kids) → AllByRecursion (λ kid. P (its_name kid)) kids
  names-of P [] all = tt
  names-of P (kid ∷ kids) all = (all.0, names-of P kids all.1)

  kids-rise : (kids : List WiredKid) (path : Path) → AllByRecursion (OfKid Rises) kids → AllByRecursion IsNoExec kids → AreInOrder (map its_name kids) →
      AllByRecursion (λ (kid : Kid). IsNamed (out-Kid kid).sim) (map (kid_under look) kids) → IsStrictlySortedBy by_path (seat_places (of_kids path kids))
  kids-rise [] path known not_exec order named = sorted-none by_path
  kids-rise (kid ∷ kids) path known not_exec order named =
      let own = seat_places (kid_places kid path) in
      subst (IsStrictlySortedBy by_path) (sym (filter-append is_seat (kid_places kid path) (of_kids path kids)))
      (sorted-append by_path own (seat_places (of_kids path kids))
      (subst (λ (ats : List Place). IsStrictlySortedBy by_path (seat_places ats)) (sym (kid-stands kid path))
      (part-rises (out-WiredKid kid).handle (below path (out-WiredKid kid).name) (out-WiredKid kid).below known.0 (subst IsNamed (shown-sim kid) named.0)))
      (kids-rise kids path known.1 not_exec.1 (sorted_tail name_cmp (its_name kid) (map its_name kids) order) named.1)
      (all-map (IsBeneath (path.names ++ its_name kid ∷ [])) (λ one. AllByRecursion (λ other. by_path one other ≡ Less) (seat_places (of_kids path kids)))
      (across-kids path (its_name kid) not_exec.0 kids not_exec.1 (names-of (λ name. name_cmp (its_name kid) name ≡ Less) kids (sorted_head name_cmp (its_name kid) (map its_name kids) order)))
      own (kid-beneath kid path)))

  net-rises : (net : Wiring) → Rises net
  net-rises = each_wiring Rises (λ net known handle path named.
      let own : Net-F Sim Kid Net = record { model = model_in (look handle); args = args_in (look handle); boss = leaf_in (look (out-Wiring net).boss); kids = map (kid_under look) (out-Wiring net).kids; links = (out-Wiring net).links } in
      let its = net-names (net_under look net handle) named in
      let shown : (out-Net (net_under look net handle)).kids ≡ map (kid_under look) (out-Wiring net).kids = ap (λ (n : Net). (out-Net n).kids) (net-shows look net handle) ∙ ap (λ (n : Net-F Sim Kid Net). n.kids) (out-roll-Net own) in
      let kids = (out-Wiring net).kids in
      let boss = place (out-Wiring net).boss (to_boss path) false in
      let not_exec = no-execs kids (subst (AllByRecursion (λ (kid : Kid). is_same_name EXEC (name_of kid) ≡ false)) shown its.1) in
      subst (λ (ats : List Place). IsStrictlySortedBy by_path (seat_places ats)) (sym (net-stands net path))
      (subst (IsStrictlySortedBy by_path) (sym (filter-append is_seat (of_kids path kids) (boss ∷ [])))
      (sorted-append by_path (seat_places (of_kids path kids)) (boss ∷ [])
      (kids-rise kids path known not_exec (subst AreInOrder (ap (map name_of) shown ∙ shown-names kids) its.0) (subst (AllByRecursion (λ (kid : Kid). IsNamed (out-Kid kid).sim)) shown its.2))
      (sorted-cons by_path boss [] tt (sorted-none by_path))
      (kids-under path boss refl kids not_exec))))

  every : (own : Option Wiring) → Beneath Rises own
  every None = tt
  every (Some net) = net-rises net

  -- the seats of a named tree stand strictly in path order
  pub tree-rises : (handle : Handle) (path : Path) (own : Option Wiring) → IsNamed (part_under look handle own) → IsStrictlySortedBy by_path (filter is_seat (part_places handle path own))
  tree-rises handle path own named = part-rises handle path own (every own) named
