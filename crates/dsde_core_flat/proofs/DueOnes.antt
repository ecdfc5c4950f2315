-- Who is due by handles is who is due in the tree, in path order.
use Rattle.std.proofs.Common.{◌≡◌, inl, inr, ℕ, not, Bool, true, false, cond, List, [], ◌∷◌, map, filter, Option, Some, None, Less, refl, sym, ap, subst, ◌∙◌}
use Rattle.std.proofs.lemmas.Cmp.{on_total}
use Rattle.std.proofs.lemmas.List.Kept.{IsStrictlySortedBy-filter}
use Rattle.std.proofs.lemmas.Simd.{map-map}
use Rattle.std.specs.Cmp.{IsTotalOrder}
use Rattle.std.specs.Option.{option_map, option_map_or}
use Rattle.std.specs.List.{AllByRecursion}
use Rattle.std.specs.List.Sorted.{IsStrictlySortedBy}
use Rattle.std.specs.FinMap as finmap
use Rattle.dsde_bank.specs.declared.handle.Handle.{Handle}
use Rattle.dsde_values.specs.declared.path.Path.{Path}
use Rattle.dsde_values.specs.Path.{root}
use Rattle.dsde_grove.specs.Grove as grove
use Rattle.dsde_grove.specs.Grove.{Grove, spot, value_of}
use Rattle.dsde_sim_tree.specs.declared.sim.Sim.{Sim}
use Rattle.dsde_sim_movers.specs.lemmas.Events.{Among, among-from, contains-from}
use Rattle.dsde_sim_movers.specs.Asking.{seated, due_ones}
use Rattle.dsde_sim_movers.specs.Names.{IsNamed}
use Rattle.dsde_core_flat.proofs.SameList.{same-list}
use Rattle.dsde_core_flat.specs.lemmas.Names.{paths-total}
use Rattle.dsde_core_flat.specs.declared.spot.Spot.{Spot}
use Rattle.dsde_core_flat.specs.declared.spot.Spot.TheVariants as variant
use Rattle.dsde_routes_wiring.specs.declared.wiring.Wiring.{Wiring}
use Rattle.dsde_core_flat.specs.Places.{Place, part_places}
use Rattle.dsde_core_flat.specs.Stands.{is_net, StandsAt, HasBirth, StandsFor}
use Rattle.dsde_core_flat.specs.lemmas.Keeping.{spot-got}
use Rattle.dsde_core_flat.specs.lemmas.Groves.{spot-slot}
use Rattle.dsde_core_flat.specs.Grafts.{path_at}
use Rattle.dsde_core_flat.specs.Scheduled.{is_next}
use Rattle.dsde_core_flat.specs.declared.due.Due.{Due}
use Rattle.dsde_core_flat.specs.Due.{IsDue, AreDue, due_cmp, asked}
use Rattle.dsde_core_flat.proofs.Seats.{is_seat, is_due_place, tree-seated, due-seats}
use Rattle.dsde_core_flat.proofs.Rising.{by_path, tree-rises}

pub due-total : IsTotalOrder due_cmp
due-total = on_total (λ (due : Due). due.path) paths-total

abbrev pub due_there : Place → Due
due_there at = record { path = at.path; handle = at.handle }

map-order : (x : Place) (ys : List Place) → AllByRecursion (λ (y : Place). by_path x y ≡ Less) ys → AllByRecursion (λ (d : Due). due_cmp (due_there x) d ≡ Less) (map due_there ys)
map-order x [] all = tt
map-order x (y ∷ ys) all = (all.0, map-order x ys all.1)

order-there : (ats : List Place) → IsStrictlySortedBy by_path ats → IsStrictlySortedBy due_cmp (map due_there ats)
unfolding IsStrictlySortedBy
order-there [] sorted = tt
order-there (at ∷ ats) sorted = (map-order at ats sorted.0, order-there ats sorted.1)

-- the due places are seats
module _ (own : Grove Spot) (time : ℕ) where
  abbrev is_due_at_place : Place → Bool
  is_due_at_place = is_due_place (value_of own) time

  seat-by : (value : Spot) (held : Option Spot) (net : Bool) → held ≡ Some value → is_net value ≡ net → is_next held time ≡ true → not net ≡ true
  seat-by (variant.Leaf leaf) held true is kind next = absurd (let wrong : false ≡ true = kind in cc)
  seat-by (variant.Leaf leaf) held false is kind next = refl
  seat-by (variant.Net model args) held net is kind next = absurd (let wrong : false ≡ true = sym (ap (λ (h : Option Spot). is_next h time) is) ∙ next in cc)

  value-at : (at : Place) → (stands : StandsAt own at) → value_of own at.handle ≡ Some stands.part.value
  value-at at stands = ap (option_map (λ (s : grove.Spot Spot). s.value)) stands.live

  -- the due among the seats are the due
  filters-once : (at : Place) (ats : List Place) (due seat : Bool) → (due ≡ true → seat ≡ true) → (all : List Place) → filter is_due_at_place (filter is_seat ats) ≡ all →
      is_due_at_place at ≡ due → filter is_due_at_place (cond seat (at ∷ filter is_seat ats) (filter is_seat ats)) ≡ cond due (at ∷ all) all
  filters-once at ats true true both all rest is = ap (λ (b : Bool). cond b (at ∷ filter is_due_at_place (filter is_seat ats)) (filter is_due_at_place (filter is_seat ats))) is ∙ ap (λ (xs : List Place). at ∷ xs) rest
  filters-once at ats true false both all rest is = absurd (let wrong : false ≡ true = both refl in cc)
  filters-once at ats false true both all rest is = ap (λ (b : Bool). cond b (at ∷ filter is_due_at_place (filter is_seat ats)) (filter is_due_at_place (filter is_seat ats))) is ∙ rest
  filters-once at ats false false both all rest is = rest

  due-are-seats : (ats : List Place) → AllByRecursion (StandsAt own) ats → filter is_due_at_place (filter is_seat ats) ≡ filter is_due_at_place ats
  due-are-seats [] stands = refl
  due-are-seats (at ∷ ats) stands =
      filters-once at ats (is_due_at_place at) (is_seat at) (seat-by stands.0.part.value (value_of own at.handle) at.is_net (value-at at stands.0) stands.0.kind) (filter is_due_at_place ats) (due-are-seats ats stands.1) refl

  path-there : (at : Place) → StandsAt own at → at.path ≡ path_at own at.handle
  path-there at stands =
      (λ i. record { names = sym stands.path i })
      ∙ sym (ap (λ (o : Option (grove.Spot Spot)). let p : Path = record { names = option_map_or (λ (part : grove.Spot Spot). part.path) o [] } in p) stands.live)

  -- who stands at a due place is due
  there-by : (at : Place) (ats : List Place) (due : Due) (b : Bool) → StandsAt own at → is_due_at_place at ≡ b → (Among due (map due_there (filter is_due_at_place ats)) → IsDue own time due) →
      Among due (map due_there (cond b (at ∷ filter is_due_at_place ats) (filter is_due_at_place ats))) → IsDue own time due
  there-by at ats due true stands is later (inl same) =
      subst (IsDue own time) (sym same) (record { next = is; path = path-there at stands })
  there-by at ats due true stands is later (inr there) = later there
  there-by at ats due false stands is later there = later there

  is-due-there : (ats : List Place) → AllByRecursion (StandsAt own) ats → (due : Due) → Among due (map due_there (filter is_due_at_place ats)) → IsDue own time due
  is-due-there [] stands due there = absurd there
  is-due-there (at ∷ ats) stands due there = there-by at ats due (is_due_at_place at) stands.0 refl (is-due-there ats stands.1 due) there

  -- the handle of a live part is that of the place of its birth
  same-handle : (handle : Handle) (part : grove.Spot Spot) → spot own handle ≡ Some part → (at : Place) → StandsAt own at → at.handle.birth ≡ handle.birth → at.handle ≡ handle
  same-handle handle part live at stands here =
      let one : finmap.get own.parts handle.birth ≡ Some stands.part = ap (finmap.get own.parts) (sym here) ∙ spot-got own at.handle stands.part stands.live in
      let two : finmap.get own.parts handle.birth ≡ Some part = spot-got own handle part live in
      let same : stands.part ≡ part = cc in
      let slots : at.handle.slot ≡ handle.slot = sym (spot-slot own at.handle stands.part stands.live) ∙ ap (λ (s : grove.Spot Spot). s.slot) same ∙ spot-slot own handle part live in
      λ i. record { birth = here i; slot = slots i }

  among-by : (at : Place) (ats : List Place) (due : Due) (b : Bool) → is_due_at_place at ≡ b → is_due_at_place at ≡ true → due ≡ due_there at →
      Among due (map due_there (cond b (at ∷ filter is_due_at_place ats) (filter is_due_at_place ats)))
  among-by at ats due true is next same = inl same
  among-by at ats due false is next same = absurd (let wrong : false ≡ true = sym is ∙ next in cc)

  among-later : (at : Place) (ats : List Place) (due : Due) (b : Bool) → Among due (map due_there (filter is_due_at_place ats)) →
      Among due (map due_there (cond b (at ∷ filter is_due_at_place ats) (filter is_due_at_place ats)))
  among-later at ats due true there = inr there
  among-later at ats due false there = there

  -- who is due stands at a due place
  is-there : (due : Due) → IsDue own time due → (part : grove.Spot Spot) → spot own due.handle ≡ Some part → (ats : List Place) → AllByRecursion (StandsAt own) ats → HasBirth due.handle.birth ats →
      Among due (map due_there (filter is_due_at_place ats))
  is-there due is part live [] stands has = absurd has
  is-there due is part live (at ∷ ats) stands (inl here) =
      let same = same-handle due.handle part live at stands.0 here in
      let path : due.path ≡ at.path = is.path ∙ ap (path_at own) (sym same) ∙ sym (path-there at stands.0) in
      among-by at ats due (is_due_at_place at) refl (ap (λ (h : Handle). is_next (value_of own h) time) same ∙ is.next) (λ i. record { path = path i; handle = sym same i })
  is-there due is part live (at ∷ ats) stands (inr later) = among-later at ats due (is_due_at_place at) (is-there due is part live ats stands.1 later)

  live-by : (handle : Handle) (held : Option (grove.Spot Spot)) → spot own handle ≡ held → is_next (option_map (λ (s : grove.Spot Spot). s.value) held) time ≡ true → (part : grove.Spot Spot) × (spot own handle ≡ Some part)
  live-by handle None is next = absurd (let wrong : false ≡ true = next in cc)
  live-by handle (Some part) is next = (part, is)

  -- the list of who is due is that of the due places
  pub due-list : (top : Handle) (wiring : Option Wiring) (tree : Sim) → StandsFor own top wiring tree → IsNamed tree → (list : List Due) → AreDue own time list →
      list ≡ map due_there (filter is_due_at_place (part_places top root wiring))
  due-list top wiring tree stands named list are =
      let ats = part_places top root wiring in
      let rises = IsStrictlySortedBy-filter by_path is_due_at_place (filter is_seat ats) (tree-rises (value_of own) top root wiring (subst IsNamed (sym stands.shows) named)) in
      let sorted = subst (IsStrictlySortedBy by_path) (due-are-seats ats stands.live) rises in
      same-list due_cmp due-total list (map due_there (filter is_due_at_place ats)) are.order (order-there (filter is_due_at_place ats) sorted)
      (λ due there.
      let is = (are.each due).0 (contains-from list due there) in
      let live = live-by due.handle (spot own due.handle) refl is.next in
      is-there due is live.0 live.1 ats stands.live (stands.only due.handle.birth live.0 (spot-got own due.handle live.0 live.1)))
      (λ due there. among-from list due ((are.each due).1 (is-due-there ats stands.live due there)))

  -- who is due by handles is who is due in the tree
  pub due-are-asked : (top : Handle) (wiring : Option Wiring) (tree : Sim) → StandsFor own top wiring tree → IsNamed tree → (list : List Due) → AreDue own time list →
      map (asked own) list ≡ due_ones time (seated tree root)
  due-are-asked top wiring tree stands named list are =
      let ats = part_places top root wiring in
      ap (map (asked own)) (due-list top wiring tree stands named list are)
      ∙ map-map (asked own) due_there (filter is_due_at_place ats)
      ∙ sym (due-seats own time ats stands.live)
      ∙ ap (due_ones time) (sym (tree-seated (value_of own) top root wiring) ∙ ap (λ (t : Sim). seated t root) stands.shows)
