-- Of two to whom it is delivered, their places are apart, or the later one is an executive above the earlier one.
use Rattle.std.proofs.Common.{◌≡◌, ℕ, ◌&&◌, Bool, true, false, List, [], ◌∷◌, ◌++◌, map, Result, Ok, Err, refl, sym, ◌∙◌, ap, subst, inl, inr, ◌⊎◌}
use Rattle.std.proofs.lemmas.Map.Keys.{IsDistinct-head, IsDistinct-tail}
use Rattle.std.specs.Cmp.{IsTotalOrder}
use Rattle.std.specs.List.{AllByRecursion, IsDistinct, flat_map, filter}
use Rattle.std.specs.Prelude.{if◌then◌else◌}
use Rattle.dsde_sim_tree.specs.Tree.{name_of}
use Rattle.dsde_values.specs.declared.name.Name.{Name}
use Rattle.dsde_values.specs.declared.path.Path.{Path}
use Rattle.dsde_values.specs.Path.{name_cmp, EXEC}
use Rattle.dsde_sim_tree.specs.given.formalism.leaf_Leaf.{Leaf}
use Rattle.dsde_sim_tree.specs.given.formalism.Leaf.{component_of}
use Rattle.dsde_sim_tree.specs.given.formalism.System.{System, Ports}
use Rattle.dsde_sim_tree.specs.given.structure.plan_Link.{Link}
use Rattle.dsde_sim_tree.specs.given.structure.plan_Part_TheVariants as part
use Rattle.dsde_sim_tree.specs.given.structure.sources_Sources.{Sources}
use Rattle.dsde_sim_tree.specs.given.structure.Gather.{gathered, is_same_name}
use Rattle.dsde_sim_tree.specs.declared.fault.TurnEnd.{TurnEnd}
use Rattle.dsde_sim_tree.specs.Told.{below, to_boss}
use Rattle.dsde_sim_tree.specs.declared.sim.Kid.{Kid}
use Rattle.dsde_sim_tree.specs.declared.sim.Net.{Net}
use Rattle.dsde_sim_tree.specs.declared.sim.Sim.{Sim}
use Rattle.dsde_sim_tree.specs.declared.sim.Sim.TheVariants as sim
use Rattle.dsde_sim_tree.specs.declared.sim.Sim.TheViews.{out-Kid, out-Net}
use Rattle.dsde_sim_tree.specs.Move.{ins_of}
use Rattle.dsde_sim_tree.specs.Output.{sources_of, kid_output}
use Rattle.dsde_sim_tree.specs.lemmas.Trees.{each_tree}
use Rattle.dsde_sim_movers.specs.Deliveries.{Delivery, KidReceives, shared, deliveries, deliveries_of_kid}
use Rattle.dsde_sim_movers.specs.lemmas.Events.{each-append, each-weaker, each-filter}
use Rattle.dsde_sim_movers.specs.lemmas.Opens.{deliveries-Leaf, deliveries-Net, deliveries-kid}
use Rattle.dsde_sim_movers.specs.Parts.{are_apart}
use Rattle.dsde_sim_movers.specs.Movers.{Seat, seat_of, seat_behind}
use Rattle.dsde_sim_movers.specs.Places.{begin_with}
use Rattle.dsde_sim_movers.specs.Orders.{is_above, IsLawful}
use Rattle.dsde_sim_movers.specs.lemmas.Seats.{IsBehind, seat-in-net, drop-front}
use Rattle.dsde_sim_movers.specs.lemmas.Beneath.{AreBehind, behind-kid}
use Rattle.dsde_sim_movers.specs.lemmas.Named.{same_name, IsPlaced, names-of, net-places}

-- names that go on from these
abbrev pub GoOn : List Name → List Name → Type 0
GoOn front names = (name : Name) × (rest : List Name) × (names ≡ front ++ name ∷ rest)

-- the second is the executive of a network beneath which the first stands
pub record IsUnder (path : Path) (own other : Delivery) : Type 0 where
  pub above : is_above path other own ≡ true
  pub not_above : is_above path own other ≡ false
  pub is_boss : (seat_behind path other.path).is_boss ≡ true
  pub names : GoOn (seat_behind path other.path).names (seat_behind path own.path).names

-- the places of two are apart
abbrev pub AreApart : Path → Delivery → Delivery → Type 0
AreApart path own other = are_apart (seat_behind path own.path).names (seat_behind path other.path).names ≡ true

-- how two stand to each other, of which the first stands before the other
abbrev pub Related : Path → Delivery → Delivery → Type 0
Related path own other = AreApart path own other ⊎ IsUnder path own other

abbrev pub ArePaired : Path → List Delivery → Type 0
ArePaired path [] = Unit {0}
ArePaired path (own ∷ later) = AllByRecursion (Related path own) later × ArePaired path later

paired-append : (path : Path) (xs ys : List Delivery) → ArePaired path xs → ArePaired path ys → AllByRecursion (λ x. AllByRecursion (Related path x) ys) xs → ArePaired path (xs ++ ys)
paired-append path [] ys first later both = later
paired-append path (x ∷ xs) ys first later both = (each-append (Related path x) xs ys first.0 both.0, paired-append path xs ys first.1 later both.1)

paired-filter-by : (path : Path) (test : Delivery → Bool) (own : Delivery) (later : List Delivery) (here : Bool) → AllByRecursion (Related path own) (filter test later) → ArePaired path (filter test later) →
    ArePaired path (if here then own ∷ filter test later else filter test later)
paired-filter-by path test own later true all paired = (all, paired)
paired-filter-by path test own later false all paired = paired

pub paired-filter : (path : Path) (test : Delivery → Bool) (list : List Delivery) → ArePaired path list → ArePaired path (filter test list)
paired-filter path test [] paired = tt
paired-filter path test (own ∷ later) paired =
    paired-filter-by path test own later (test own) (each-filter (Related path own) test later paired.0) (paired-filter path test later paired.1)

pub and-false : (b : Bool) → (b && false) ≡ false
and-false true = refl
and-false false = refl

apart-begins-by : (name other : Name) (names others : List Name) → (are_apart names others ≡ true → begin_with names others ≡ false) → (here : Bool) →
    (if here then are_apart names others else true) ≡ true → (here && begin_with names others) ≡ false
apart-begins-by name other names others later true apart = later apart
apart-begins-by name other names others later false apart = refl

apart-begins : (names others : List Name) → are_apart names others ≡ true → begin_with names others ≡ false
apart-begins [] others apart = absurd (let e : false ≡ true = apart in cc)
apart-begins (name ∷ names) [] apart = refl
apart-begins (name ∷ names) (other ∷ others) apart = apart-begins-by name other names others (apart-begins names others) (is_same_name name other) apart

pub not-above : (path : Path) (own other : Delivery) → Related path own other → is_above path own other ≡ false
not-above path own other (inl apart) =
    ap (λ (b : Bool). (seat_behind path own.path).is_boss && b) (apart-begins (seat_behind path own.path).names (seat_behind path other.path).names apart)
    ∙ and-false (seat_behind path own.path).is_boss
not-above path own other (inr under) = under.not_above

-- The order in which they stand is lawful.
pub lawful-from-paired : (path : Path) (list : List Delivery) → ArePaired path list → IsLawful path list
lawful-from-paired path [] paired = tt
lawful-from-paired path (own ∷ later) paired =
    (each-weaker (Related path own) (λ other. is_above path own other ≡ false) (not-above path own) later paired.0, lawful-from-paired path later paired.1)

module _ (total : IsTotalOrder name_cmp) (system : System) where
  pub same : (name : Name) → is_same_name name name ≡ true
  same = same_name total

  -- two beneath one component, in its network
  module _ (path : Path) (name : Name) (not_exec : is_same_name EXEC name ≡ false) (own other : Delivery) (own_behind : IsBehind (below path name) own.path) (other_behind : IsBehind (below path name) other.path) where
    abbrev own_seat : Seat
    own_seat = seat_behind (below path name) own.path

    abbrev other_seat : Seat
    other_seat = seat_behind (below path name) other.path

    apart-up : are_apart (seat_behind path own.path).names (seat_behind path other.path).names ≡ are_apart own_seat.names other_seat.names
    apart-up =
        (λ i. are_apart (seat-in-net name path own.path not_exec own_behind i).names (seat-in-net name path other.path not_exec other_behind i).names)
        ∙ ap (λ (here : Bool). if here then are_apart own_seat.names other_seat.names else true) (same name)

    pub above-up : is_above path own other ≡ is_above (below path name) own other
    above-up =
        (λ i. (seat-in-net name path own.path not_exec own_behind i).is_boss && begin_with (seat-in-net name path own.path not_exec own_behind i).names (seat-in-net name path other.path not_exec other_behind i).names)
        ∙ ap (λ (here : Bool). own_seat.is_boss && (here && begin_with own_seat.names other_seat.names)) (same name)

  related-up : (path : Path) (name : Name) → is_same_name EXEC name ≡ false → (own other : Delivery) → IsBehind (below path name) own.path → IsBehind (below path name) other.path → Related (below path name) own other → Related path own other
  related-up path name not_exec own other own_behind other_behind (inl apart) = inl (apart-up path name not_exec own other own_behind other_behind ∙ apart)
  related-up path name not_exec own other own_behind other_behind (inr under) =
      let go = under.names in
      inr (record {
        above = above-up path name not_exec other own other_behind own_behind ∙ under.above;
        not_above = above-up path name not_exec own other own_behind other_behind ∙ under.not_above;
        is_boss = ap (λ (seat : Seat). seat.is_boss) (seat-in-net name path other.path not_exec other_behind) ∙ under.is_boss;
        names = (
          go.0,
          go.1,
          ap (λ (seat : Seat). seat.names) (seat-in-net name path own.path not_exec own_behind)
              ∙ ap (λ (names : List Name). name ∷ names) go.2
              ∙ ap (λ (seat : Seat). seat.names ++ go.0 ∷ go.1) (sym (seat-in-net name path other.path not_exec other_behind)),
        );
      })

  paired-up : (path : Path) (name : Name) → is_same_name EXEC name ≡ false → (list : List Delivery) → AreBehind (below path name) list → ArePaired (below path name) list → ArePaired path list
  paired-up path name not_exec [] behind paired = tt
  paired-up path name not_exec (own ∷ later) behind paired = (all-up later behind.1 paired.0, paired-up path name not_exec later behind.1 paired.1)
    where
      all-up : (others : List Delivery) → AreBehind (below path name) others → AllByRecursion (Related (below path name) own) others → AllByRecursion (Related path own) others
      all-up [] behinds related = tt
      all-up (other ∷ others) behinds related = (related-up path name not_exec own other behind.0 behinds.0 related.0, all-up others behinds.1 related.1)

  -- two beneath two components
  across : (path : Path) (name later : Name) → is_same_name EXEC name ≡ false → is_same_name EXEC later ≡ false → is_same_name name later ≡ false →
      (own other : Delivery) → IsBehind (below path name) own.path → IsBehind (below path later) other.path → AreApart path own other
  across path name later not_exec not_exec_later differ own other behind behind_other =
      (λ i. are_apart (seat-in-net name path own.path not_exec behind i).names (seat-in-net later path other.path not_exec_later behind_other i).names)
      ∙ ap (λ (here : Bool). if here then are_apart (seat_behind (below path name) own.path).names (seat_behind (below path later) other.path).names else true) differ

  module _ (path : Path) (time : ℕ) (links : List Link) (sources : Sources) where
    abbrev pub NotExec : Kid → Type 0
    NotExec kid = is_same_name EXEC (name_of kid) ≡ false

    abbrev pub of_kid : Kid → List Delivery
    of_kid kid = deliveries_of_kid system kid path time links sources

    abbrev pub of_kids : List Kid → List Delivery
    of_kids kids = flat_map (λ (kid : KidReceives). kid path time links sources) (map (deliveries_of_kid system) kids)

    pub apart-kids : (name : Name) → is_same_name EXEC name ≡ false → (kids : List Kid) → AllByRecursion NotExec kids → AllByRecursion (λ kid. is_same_name name (name_of kid) ≡ false) kids →
        (own : Delivery) → IsBehind (below path name) own.path → AllByRecursion (AreApart path own) (of_kids kids)
    apart-kids name not_exec [] not_execs differ own behind = tt
    apart-kids name not_exec (kid ∷ kids) not_execs differ own behind =
        each-append (AreApart path own) (of_kid kid) (of_kids kids)
        (each-weaker (λ (other : Delivery). IsBehind (below path (name_of kid)) other.path) (AreApart path own)
        (λ other. across path name (name_of kid) not_exec not_execs.0 differ.0 own other behind) (of_kid kid) (behind-kid system kid path time links sources))
        (apart-kids name not_exec kids not_execs.1 differ.1 own behind)

    -- those beneath a network against its executive
    module _ (boss : Delivery) (seat : seat_behind path boss.path ≡ record { names = []; is_boss = true }) where
      under-boss : (name : Name) → is_same_name EXEC name ≡ false → (own : Delivery) → IsBehind (below path name) own.path → IsUnder path own boss
      under-boss name not_exec own behind =
          let own_seat = seat_behind (below path name) own.path in
          record {
            above = λ i. (seat i).is_boss && begin_with (seat i).names (seat_behind path own.path).names;
            not_above = (λ i. (seat-in-net name path own.path not_exec behind i).is_boss && begin_with (seat-in-net name path own.path not_exec behind i).names (seat i).names) ∙ and-false own_seat.is_boss;
            is_boss = ap (λ (s : Seat). s.is_boss) seat;
            names = (name, own_seat.names, ap (λ (s : Seat). s.names) (seat-in-net name path own.path not_exec behind) ∙ ap (λ (s : Seat). s.names ++ name ∷ own_seat.names) (sym seat));
          }

      pub kids-under : (kids : List Kid) → AllByRecursion NotExec kids → AllByRecursion (λ own. IsUnder path own boss) (of_kids kids)
      kids-under [] not_execs = tt
      kids-under (kid ∷ kids) not_execs =
          each-append (λ own. IsUnder path own boss) (of_kid kid) (of_kids kids)
          (each-weaker (λ (own : Delivery). IsBehind (below path (name_of kid)) own.path) (λ own. IsUnder path own boss)
          (under-boss (name_of kid) not_execs.0) (of_kid kid) (behind-kid system kid path time links sources))
          (kids-under kids not_execs.1)

  abbrev pub PairsUp : Sim → Type 0
  PairsUp tree = (path : Path) (time : ℕ) (got : Ports) → IsPlaced tree → ArePaired path (deliveries system tree path time got)

  pairs-leaf : (leaf : Leaf) → PairsUp (sim.Leaf leaf)
  pairs-leaf leaf path time got placed = subst (λ (list : List Delivery). ArePaired path list) (sym (deliveries-Leaf system leaf path time got)) (tt, tt)

  pairs-kids : (kids : List Kid) → AllByRecursion (λ kid. PairsUp (out-Kid kid).sim) kids → AllByRecursion (λ kid. IsPlaced (out-Kid kid).sim) kids → (path : Path) (time : ℕ) (links : List Link) (sources : Sources) →
      AllByRecursion (NotExec path time links sources) kids → IsDistinct is_same_name (map name_of kids) → ArePaired path (of_kids path time links sources kids)
  pairs-kids [] pairs placed path time links sources not_exec distinct = tt
  pairs-kids (kid ∷ kids) pairs placed path time links sources not_exec distinct =
      let place = below path (name_of kid) in
      let own = of_kid path time links sources kid in
      let names = map name_of kids in
      let behind = behind-kid system kid path time links sources in
      paired-append path own (of_kids path time links sources kids)
      (paired-up path (name_of kid) not_exec.0 own behind
      (subst (λ (list : List Delivery). ArePaired place list) (sym (deliveries-kid system kid path time links sources))
      (pairs.0 place time (gathered system.translate links sources (part.Kid (name_of kid)) (ins_of system (out-Kid kid).sim)) placed.0)))
      (pairs-kids kids pairs.1 placed.1 path time links sources not_exec.1 (IsDistinct-tail is_same_name (name_of kid) names distinct))
      (each-weaker (λ (one : Delivery). IsBehind place one.path) (λ one. AllByRecursion (Related path one) (of_kids path time links sources kids))
      (λ one behind. each-weaker (AreApart path one) (Related path one) (λ other apart. inl apart) (of_kids path time links sources kids)
      (apart-kids path time links sources (name_of kid) not_exec.0 kids not_exec.1
      (names-of (λ name. is_same_name (name_of kid) name ≡ false) kids (IsDistinct-head is_same_name (name_of kid) names distinct)) one behind))
      own behind)

  pairs-sources : (net : Net) → AllByRecursion (λ kid. PairsUp (out-Kid kid).sim) (out-Net net).kids → IsPlaced (sim.Net net) → (path : Path) (time : ℕ) (found : Result Sources TurnEnd) →
      (let list : List Delivery = elim found [
        | Ok sources ↦ shared system (out-Net net).boss (map (deliveries_of_kid system) (out-Net net).kids) (out-Net net).links path time sources
        | Err end ↦ []
      ] in ArePaired path list)
  pairs-sources net pairs placed path time (Ok sources) =
      let own = out-Net net in
      let places = net-places net placed in
      let names = map name_of own.kids in
      let not_exec = names-of (λ name. is_same_name EXEC name ≡ false) own.kids (IsDistinct-head is_same_name EXEC names places.0) in
      let boss : Delivery = record { path = to_boss path; model = own.boss.model; ports = gathered system.translate own.links sources part.Boss (component_of system own.boss).ins } in
      let seat : seat_behind path (to_boss path) ≡ record { names = []; is_boss = true } =
      ap seat_of (drop-front path.names (EXEC ∷ []))
      ∙ ap (λ (here : Bool). let seat : Seat = if here then record { names = []; is_boss = true } else record { names = EXEC ∷ []; is_boss = false } in seat) (same EXEC) in
      paired-append path (of_kids path time own.links sources own.kids) (boss ∷ [])
      (pairs-kids own.kids pairs places.1 path time own.links sources not_exec (IsDistinct-tail is_same_name EXEC names places.0))
      (tt, tt)
      (each-weaker (λ (one : Delivery). IsUnder path one boss) (λ one. AllByRecursion (Related path one) (boss ∷ [])) (λ one under. (inr under, tt)) (of_kids path time own.links sources own.kids)
      (kids-under path time own.links sources boss seat own.kids not_exec))
  pairs-sources net pairs placed path time (Err end) = tt

  pairs-net : (net : Net) → AllByRecursion (λ kid. PairsUp (out-Kid kid).sim) (out-Net net).kids → PairsUp (sim.Net net)
  pairs-net net pairs path time got placed =
      subst (λ (list : List Delivery). ArePaired path list) (sym (deliveries-Net system net path time got))
      (pairs-sources net pairs placed path time (sources_of system (map (kid_output system) (out-Net net).kids) (out-Net net).boss path time got))

  pub pairs-up : (tree : Sim) → PairsUp tree
  pairs-up = each_tree PairsUp pairs-leaf pairs-net
