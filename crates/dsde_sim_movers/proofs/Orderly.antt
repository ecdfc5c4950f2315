-- No mover waits for a later one, and who waits for one waits for all between.
use Rattle.std.proofs.Common.{◌≡◌, ℕ, Bool, true, false, List, [], ◌∷◌, ◌++◌, map, cond, Result, Ok, Err, sym, ◌∙◌, ap, subst, inl}
use Rattle.std.proofs.lemmas.Map.Keys.{IsDistinct-head, IsDistinct-tail}
use Rattle.std.specs.Cmp.{IsTotalOrder}
use Rattle.std.specs.List.{AllByRecursion, IsDistinct, filter}
use Rattle.std.specs.Prelude.{if◌then◌else◌}
use Rattle.dsde_sim_tree.specs.Tree.{name_of}
use Rattle.dsde_values.specs.declared.name.Name.{Name}
use Rattle.dsde_values.specs.declared.path.Path.{Path}
use Rattle.dsde_values.specs.Path.{name_cmp, EXEC}
use Rattle.dsde_sim_tree.specs.given.formalism.leaf_Leaf.{Leaf}
use Rattle.dsde_sim_tree.specs.given.formalism.Leaf.{component_of}
use Rattle.dsde_sim_tree.specs.given.formalism.System.{System, Ports}
use Rattle.dsde_sim_tree.specs.given.structure.plan_Link.{Link}
use Rattle.dsde_sim_tree.specs.given.structure.plan_Part_TheVariants as part
use Rattle.dsde_sim_tree.specs.given.structure.sources_Sources.{Sources}
use Rattle.dsde_sim_tree.specs.given.structure.Gather.{gathered, is_same_name}
use Rattle.dsde_sim_tree.specs.declared.fault.TurnEnd.{TurnEnd}
use Rattle.dsde_sim_tree.specs.Told.{below, to_boss}
use Rattle.dsde_sim_tree.specs.declared.sim.Kid.{Kid}
use Rattle.dsde_sim_tree.specs.declared.sim.Net.{Net}
use Rattle.dsde_sim_tree.specs.declared.sim.Sim.{Sim}
use Rattle.dsde_sim_tree.specs.declared.sim.Sim.TheVariants as sim
use Rattle.dsde_sim_tree.specs.declared.sim.Sim.TheViews.{out-Kid, out-Net}
use Rattle.dsde_sim_tree.specs.Move.{ins_of}
use Rattle.dsde_sim_tree.specs.Output.{sources_of, kid_output}
use Rattle.dsde_sim_tree.specs.lemmas.Trees.{each_tree}
use Rattle.dsde_sim_movers.specs.Deliveries.{Delivery, shared, deliveries, deliveries_of_kid}
use Rattle.dsde_sim_movers.specs.lemmas.Events.{each-append, each-weaker, each-filter}
use Rattle.dsde_sim_movers.specs.lemmas.Opens.{deliveries-Leaf, deliveries-Net, deliveries-kid}
use Rattle.dsde_sim_movers.specs.Movers.{Seat, seat_of, seat_behind, is_mover, movers}
use Rattle.dsde_sim_movers.specs.lemmas.Beneath.{AreBehind, behind-kid}
use Rattle.dsde_sim_movers.specs.lemmas.Lenses.{apart-back}
use Rattle.dsde_sim_movers.specs.lemmas.Named.{same_name, IsPlaced, names-of, net-places}
use Rattle.dsde_sim_movers.specs.lemmas.Seats.{IsBehind, drop-front}
use Rattle.dsde_drawing.specs.Drawing.{IsOrderly, IsPassed}
use Rattle.dsde_sim_movers.specs.Orders.{is_above}
use Rattle.dsde_sim_movers.proofs.Pairs.{AreApart, IsUnder, not-above, above-up, of_kid, of_kids, NotExec, apart-kids, kids-under}

module _ {A : Type 0} (waits : A → A → Bool) where
  -- who waits for the one waits for the other
  abbrev WaitsToo : A → A → A → Type 0
  WaitsToo one next other = waits other one ≡ true → waits other next ≡ true

  none-too : (one next other : A) → waits other one ≡ false → WaitsToo one next other
  none-too one next other never this = absurd (let e : true ≡ false = sym this ∙ never in cc)

  passed-none : (one : A) (list : List A) → AllByRecursion (λ other. waits other one ≡ false) list → IsPassed waits one list
  passed-none one [] none = tt
  passed-none one (next ∷ later) none =
      (each-weaker (λ other. waits other one ≡ false) (WaitsToo one next) (none-too one next) later none.1, passed-none one later none.1)

  passed-append : (one : A) (xs ys : List A) → IsPassed waits one xs → AllByRecursion (λ other. waits other one ≡ false) ys → IsPassed waits one (xs ++ ys)
  passed-append one [] ys passed none = passed-none one ys none
  passed-append one (next ∷ xs) ys passed none =
      (each-append (WaitsToo one next) xs ys passed.0 (each-weaker (λ other. waits other one ≡ false) (WaitsToo one next) (none-too one next) ys none), passed-append one xs ys passed.1 none)

  -- none of either list waits for any of the other
  orderly-append : (xs ys : List A) → IsOrderly waits xs → IsOrderly waits ys → AllByRecursion (λ x. AllByRecursion (λ y. waits x y ≡ false) ys) xs → AllByRecursion (λ x. AllByRecursion (λ y. waits y x ≡ false) ys) xs →
      IsOrderly waits (xs ++ ys)
  orderly-append [] ys first later forth back = later
  orderly-append (x ∷ xs) ys first later forth back =
      (each-append (λ other. waits x other ≡ false) xs ys first.0 forth.0, passed-append x xs ys first.1 back.0, orderly-append xs ys first.2 later forth.1 back.1)

  passed-last : (one : A) (xs : List A) (last : A) → IsPassed waits one xs → AllByRecursion (λ x. waits last x ≡ true) xs → IsPassed waits one (xs ++ last ∷ [])
  passed-last one [] last passed all = (tt, tt)
  passed-last one (next ∷ xs) last passed all =
      (each-append (WaitsToo one next) xs (last ∷ []) passed.0 ((λ this. all.0), tt), passed-last one xs last passed.1 all.1)

  -- the last waits for all
  orderly-last : (xs : List A) (last : A) → IsOrderly waits xs → AllByRecursion (λ x. waits x last ≡ false) xs → AllByRecursion (λ x. waits last x ≡ true) xs → IsOrderly waits (xs ++ last ∷ [])
  orderly-last [] last orderly none all = (tt, tt, tt)
  orderly-last (x ∷ xs) last orderly none all =
      (each-append (λ other. waits x other ≡ false) xs (last ∷ []) orderly.0 (none.0, tt), passed-last x xs last orderly.1 all.1, orderly-last xs last orderly.2 none.1 all.1)

  passed-by : (one next : A) (rest : List A) (here : Bool) → AllByRecursion (WaitsToo one next) rest → IsPassed waits one rest → IsPassed waits one (cond here (next ∷ rest) rest)
  passed-by one next rest true too passed = (too, passed)
  passed-by one next rest false too passed = passed

  passed-filter : (test : A → Bool) (one : A) (list : List A) → IsPassed waits one list → IsPassed waits one (filter test list)
  passed-filter test one [] passed = tt
  passed-filter test one (next ∷ list) passed =
      passed-by one next (filter test list) (test next) (each-filter (WaitsToo one next) test list passed.0) (passed-filter test one list passed.1)

  orderly-by : (own : A) (rest : List A) (here : Bool) → AllByRecursion (λ other. waits own other ≡ false) rest → IsPassed waits own rest → IsOrderly waits rest → IsOrderly waits (cond here (own ∷ rest) rest)
  orderly-by own rest true none passed orderly = (none, passed, orderly)
  orderly-by own rest false none passed orderly = orderly

  orderly-filter : (test : A → Bool) (list : List A) → IsOrderly waits list → IsOrderly waits (filter test list)
  orderly-filter test [] orderly = tt
  orderly-filter test (own ∷ list) orderly =
      orderly-by own (filter test list) (test own) (each-filter (λ other. waits own other ≡ false) test list orderly.0) (passed-filter test own list orderly.1) (orderly-filter test list orderly.2)

module _ (total : IsTotalOrder name_cmp) (exact : (name other : Name) → is_same_name name other ≡ true → name ≡ other) (system : System) where
  -- beneath one component, and in its network
  module _ (path : Path) (name : Name) (not_exec : is_same_name EXEC name ≡ false) where
    up : (own other : Delivery) → IsBehind (below path name) own.path → IsBehind (below path name) other.path → is_above path own other ≡ is_above (below path name) own other
    up own other behind beside = above-up total system path name not_exec own other behind beside

    none-up : (own : Delivery) (list : List Delivery) → IsBehind (below path name) own.path → AreBehind (below path name) list →
        AllByRecursion (λ other. is_above (below path name) own other ≡ false) list → AllByRecursion (λ other. is_above path own other ≡ false) list
    none-up own [] behind behinds none = tt
    none-up own (other ∷ list) behind behinds none = (up own other behind behinds.0 ∙ none.0, none-up own list behind behinds.1 none.1)

    too-up : (one next : Delivery) (list : List Delivery) → IsBehind (below path name) one.path → IsBehind (below path name) next.path → AreBehind (below path name) list →
        AllByRecursion (λ other. is_above (below path name) other one ≡ true → is_above (below path name) other next ≡ true) list → AllByRecursion (λ other. is_above path other one ≡ true → is_above path other next ≡ true) list
    too-up one next [] behind beside behinds too = tt
    too-up one next (other ∷ list) behind beside behinds too =
        (λ this. up other next behinds.0 beside ∙ too.0 (sym (up other one behinds.0 behind) ∙ this), too-up one next list behind beside behinds.1 too.1)

    passed-up : (one : Delivery) (list : List Delivery) → IsBehind (below path name) one.path → AreBehind (below path name) list → IsPassed (is_above (below path name)) one list → IsPassed (is_above path) one list
    passed-up one [] behind behinds passed = tt
    passed-up one (next ∷ list) behind behinds passed = (too-up one next list behind behinds.0 behinds.1 passed.0, passed-up one list behind behinds.1 passed.1)

    orderly-up : (list : List Delivery) → AreBehind (below path name) list → IsOrderly (is_above (below path name)) list → IsOrderly (is_above path) list
    orderly-up [] behinds orderly = tt
    orderly-up (own ∷ list) behinds orderly = (none-up own list behinds.0 behinds.1 orderly.0, passed-up own list behinds.0 behinds.1 orderly.1, orderly-up list behinds.1 orderly.2)

  abbrev OrderlyUp : Sim → Type 0
  OrderlyUp tree = (path : Path) (time : ℕ) (got : Ports) → IsPlaced tree → IsOrderly (is_above path) (deliveries system tree path time got)

  orderly-leaf : (leaf : Leaf) → OrderlyUp (sim.Leaf leaf)
  orderly-leaf leaf path time got placed = subst (λ (list : List Delivery). IsOrderly (is_above path) list) (sym (deliveries-Leaf system leaf path time got)) (tt, tt, tt)

  orderly-kids : (kids : List Kid) → AllByRecursion (λ kid. OrderlyUp (out-Kid kid).sim) kids → AllByRecursion (λ kid. IsPlaced (out-Kid kid).sim) kids → (path : Path) (time : ℕ) (links : List Link) (sources : Sources) →
      AllByRecursion (NotExec total system path time links sources) kids → IsDistinct is_same_name (map name_of kids) → IsOrderly (is_above path) (of_kids total system path time links sources kids)
  orderly-kids [] ups placed path time links sources not_exec distinct = tt
  orderly-kids (kid ∷ kids) ups placed path time links sources not_exec distinct =
      let place = below path (name_of kid) in
      let own = of_kid total system path time links sources kid in
      let rest = of_kids total system path time links sources kids in
      let names = map name_of kids in
      let behind : AreBehind place own = behind-kid system kid path time links sources in
      let apart : AllByRecursion (λ (one : Delivery). AllByRecursion (AreApart path one) rest) own =
      each-weaker (λ (one : Delivery). IsBehind place one.path) (λ one. AllByRecursion (AreApart path one) rest)
      (λ one. apart-kids total system path time links sources (name_of kid) not_exec.0 kids not_exec.1
      (names-of (λ name. is_same_name (name_of kid) name ≡ false) kids (IsDistinct-head is_same_name (name_of kid) names distinct)) one)
      own behind in
      orderly-append (is_above path) own rest
      (orderly-up path (name_of kid) not_exec.0 own behind
      (subst (λ (list : List Delivery). IsOrderly (is_above place) list) (sym (deliveries-kid system kid path time links sources))
      (ups.0 place time (gathered system.translate links sources (part.Kid (name_of kid)) (ins_of system (out-Kid kid).sim)) placed.0)))
      (orderly-kids kids ups.1 placed.1 path time links sources not_exec.1 (IsDistinct-tail is_same_name (name_of kid) names distinct))
      (each-weaker (λ one. AllByRecursion (AreApart path one) rest) (λ one. AllByRecursion (λ other. is_above path one other ≡ false) rest)
      (λ one. each-weaker (AreApart path one) (λ other. is_above path one other ≡ false) (λ other apart. not-above path one other (inl apart)) rest) own apart)
      (each-weaker (λ one. AllByRecursion (AreApart path one) rest) (λ one. AllByRecursion (λ other. is_above path other one ≡ false) rest)
      (λ one. each-weaker (AreApart path one) (λ other. is_above path other one ≡ false)
      (λ other apart. not-above path other one (inl (apart-back (same_name total) exact (seat_behind path one.path).names (seat_behind path other.path).names apart))) rest) own apart)

  orderly-sources : (net : Net) → AllByRecursion (λ kid. OrderlyUp (out-Kid kid).sim) (out-Net net).kids → IsPlaced (sim.Net net) → (path : Path) (time : ℕ) (found : Result Sources TurnEnd) →
      (let list : List Delivery = elim found [
        | Ok sources ↦ shared system (out-Net net).boss (map (deliveries_of_kid system) (out-Net net).kids) (out-Net net).links path time sources
        | Err end ↦ []
      ] in IsOrderly (is_above path) list)
  orderly-sources net ups placed path time (Ok sources) =
      let own = out-Net net in
      let places = net-places net placed in
      let names = map name_of own.kids in
      let not_exec = names-of (λ name. is_same_name EXEC name ≡ false) own.kids (IsDistinct-head is_same_name EXEC names places.0) in
      let boss : Delivery = record { path = to_boss path; model = own.boss.model; ports = gathered system.translate own.links sources part.Boss (component_of system own.boss).ins } in
      let seat : seat_behind path (to_boss path) ≡ record { names = []; is_boss = true } =
      ap seat_of (drop-front path.names (EXEC ∷ []))
      ∙ ap (λ (here : Bool). let seat : Seat = if here then record { names = []; is_boss = true } else record { names = EXEC ∷ []; is_boss = false } in seat) (same_name total EXEC) in
      let list = of_kids total system path time own.links sources own.kids in
      let under = kids-under total system path time own.links sources boss seat own.kids not_exec in
      orderly-last (is_above path) list boss
      (orderly-kids own.kids ups places.1 path time own.links sources not_exec (IsDistinct-tail is_same_name EXEC names places.0))
      (each-weaker (λ one. IsUnder path one boss) (λ one. is_above path one boss ≡ false) (λ one is. is.not_above) list under)
      (each-weaker (λ one. IsUnder path one boss) (λ one. is_above path boss one ≡ true) (λ one is. is.above) list under)
  orderly-sources net ups placed path time (Err end) = tt

  orderly-net : (net : Net) → AllByRecursion (λ kid. OrderlyUp (out-Kid kid).sim) (out-Net net).kids → OrderlyUp (sim.Net net)
  orderly-net net ups path time got placed =
      subst (λ (list : List Delivery). IsOrderly (is_above path) list) (sym (deliveries-Net system net path time got))
      (orderly-sources net ups placed path time (sources_of system (map (kid_output system) (out-Net net).kids) (out-Net net).boss path time got))

  orderly-all : (tree : Sim) → OrderlyUp tree
  orderly-all = each_tree OrderlyUp orderly-leaf orderly-net

  pub movers-orderly : (tree : Sim) (path : Path) (time : ℕ) (got : Ports) → IsPlaced tree → IsOrderly (is_above path) (movers system tree path time got)
  movers-orderly tree path time got placed = orderly-filter (is_above path) (is_mover tree path time) (deliveries system tree path time got) (orderly-all tree path time got placed)
