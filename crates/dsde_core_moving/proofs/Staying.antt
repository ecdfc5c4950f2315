-- The components that stay, by their tests and by the names of those that go.
use Rattle.std.proofs.Common.{◌≡◌, ◌≤◌, Bool, true, false, not, cond, List, [], ◌∷◌, length, map, filter, Less, refl, sym, ap, subst, ◌∙◌, arith}
use Rattle.std.specs.List.{AllByRecursion, list_any}
use Rattle.std.specs.List.Sorted.{IsStrictlySortedBy}
use Rattle.std.proofs.lemmas.Map.Keys.{sorted_head, sorted_tail}
use Rattle.dsde_values.specs.declared.name.Name.{Name}
use Rattle.dsde_values.specs.Path.{name_cmp}
use Rattle.dsde_structure.specs.declared.plan.Entry.{Entry}
use Rattle.dsde_structure.specs.Gather.{is_same_name}
use Rattle.dsde_structure.specs.Survival.{names, AreInOrder}
use Rattle.dsde_grove.specs.Grove.{Grove, value_of}
use Rattle.dsde_sim_tree.specs.declared.sim.Kid.{Kid}
use Rattle.dsde_sim_tree.specs.Tree.{parts_of_kids}
use Rattle.dsde_sim_tree.specs.Move.{gone, kept, survives}
use Rattle.dsde_sim_movers.proofs.MoverChanging.{each-called}
use Rattle.dsde_routes_wiring.specs.declared.wiring.WiredKid.{WiredKid}
use Rattle.dsde_routes_wiring.specs.Places.{has_name, staying}
use Rattle.dsde_repair_walks.specs.Found.{name_of, InOrder}
use Rattle.dsde_core_moves.specs.given.core_flat.spot_Spot.{Spot}
use Rattle.dsde_core_moves.specs.given.core_flat.Shown.{kid_under}
use Rattle.dsde_core_moves.specs.given.core_flat.lemmas_Apart.{name-shown}
use Rattle.dsde_core_moves.specs.given.core_flat.lemmas_Grafting.{parts-cons}
use Rattle.dsde_core_moves.specs.given.core_flat.lemmas_Names.{names-total}
use Rattle.dsde_core_moves.specs.Chosen.{chosen, lost, shown}
use Rattle.dsde_core_moves.specs.Compared.{entries_of, tests_of}

not-twice : (b : Bool) → not (not b) ≡ b
not-twice true = refl
not-twice false = refl

module _ (own : Grove Spot) (entries : List Entry) where
  abbrev test : WiredKid → Bool
  test kid = survives entries (kid_under (value_of own) kid)

  abbrev fails : WiredKid → Bool
  fails kid = not (test kid)

  pub tests-length : (kids : List WiredKid) → length (tests_of own entries kids) ≡ length kids
  tests-length [] = refl
  tests-length (kid ∷ kids) = omega (arith, tests-length kids)

  chosen-at : (kid : WiredKid) (kids : List WiredKid) (tests : List Bool) (b : Bool) → chosen tests kids ≡ filter test kids → chosen (b ∷ tests) (kid ∷ kids) ≡ cond b (kid ∷ filter test kids) (filter test kids)
  chosen-at kid kids tests true is = ap (λ (ks : List WiredKid). kid ∷ ks) is
  chosen-at kid kids tests false is = is

  chosen-are : (kids : List WiredKid) → chosen (tests_of own entries kids) kids ≡ filter test kids
  chosen-are [] = refl
  chosen-are (kid ∷ kids) = chosen-at kid kids (tests_of own entries kids) (test kid) (chosen-are kids)

  lost-at : (kid : WiredKid) (kids : List WiredKid) (tests : List Bool) (b : Bool) → lost tests kids ≡ filter fails kids → lost (b ∷ tests) (kid ∷ kids) ≡ cond (not b) (kid ∷ filter fails kids) (filter fails kids)
  lost-at kid kids tests true is = is
  lost-at kid kids tests false is = ap (λ (ks : List WiredKid). kid ∷ ks) is

  lost-are : (kids : List WiredKid) → lost (tests_of own entries kids) kids ≡ filter fails kids
  lost-are [] = refl
  lost-are (kid ∷ kids) = lost-at kid kids (tests_of own entries kids) (test kid) (lost-are kids)

  kept-at : (kid : WiredKid) (kids : List WiredKid) (tests : List Bool) (b : Bool) → shown own (chosen tests kids) ≡ kept entries (shown own kids) →
      shown own (chosen (b ∷ tests) (kid ∷ kids)) ≡ cond b (kid_under (value_of own) kid ∷ kept entries (shown own kids)) (kept entries (shown own kids))
  kept-at kid kids tests true is = ap (λ (ks : List Kid). kid_under (value_of own) kid ∷ ks) is
  kept-at kid kids tests false is = is

  -- those that pass are the survivors, and the others go
  pub tests-kept : (kids : List WiredKid) → shown own (chosen (tests_of own entries kids) kids) ≡ kept entries (shown own kids)
  tests-kept [] = refl
  tests-kept (kid ∷ kids) = kept-at kid kids (tests_of own entries kids) (test kid) (tests-kept kids)

  gone-at : (kid : WiredKid) (kids : List WiredKid) (tests : List Bool) (b : Bool) → shown own (lost tests kids) ≡ gone entries (shown own kids) →
      shown own (lost (b ∷ tests) (kid ∷ kids)) ≡ cond (not b) (kid_under (value_of own) kid ∷ gone entries (shown own kids)) (gone entries (shown own kids))
  gone-at kid kids tests true is = is
  gone-at kid kids tests false is = ap (λ (ks : List Kid). kid_under (value_of own) kid ∷ ks) is

  pub tests-gone : (kids : List WiredKid) → shown own (lost (tests_of own entries kids) kids) ≡ gone entries (shown own kids)
  tests-gone [] = refl
  tests-gone (kid ∷ kids) = gone-at kid kids (tests_of own entries kids) (test kid) (tests-gone kids)

  -- the names of components are those of their entries
  names-wired : (kids : List WiredKid) → names (entries_of own kids) ≡ map name_of kids
  names-wired [] = refl
  names-wired (kid ∷ kids) = λ i. name-shown (value_of own) kid i ∷ names-wired kids i

  pub wired-order : (kids : List WiredKid) → AreInOrder (names (entries_of own kids)) → InOrder kids
  wired-order kids order = subst AreInOrder (names-wired kids) order

-- items that pass a test are in order
module _ {X : Type 0} (f : X → Name) where
  before-cond : (name : Name) (b : Bool) (x : X) (xs : List X) → AllByRecursion (λ other. name_cmp name other ≡ Less) (map f (x ∷ xs)) → AllByRecursion (λ other. name_cmp name other ≡ Less) (map f (cond b (x ∷ xs) xs))
  before-cond name true x xs before = before
  before-cond name false x xs before = before.1

  before-filter : (name : Name) (test : X → Bool) (xs : List X) → AllByRecursion (λ other. name_cmp name other ≡ Less) (map f xs) → AllByRecursion (λ other. name_cmp name other ≡ Less) (map f (filter test xs))
  before-filter name test [] before = tt
  before-filter name test (x ∷ xs) before = before-cond name (test x) x (filter test xs) (before.0, before-filter name test xs before.1)

  order-cond : (b : Bool) (x : X) (xs : List X) → AllByRecursion (λ other. name_cmp (f x) other ≡ Less) (map f xs) → AreInOrder (map f xs) → AreInOrder (map f (cond b (x ∷ xs) xs))
  unfolding IsStrictlySortedBy
  order-cond true x xs before sorted = (before, sorted)
  order-cond false x xs before sorted = sorted

  pub order-filter : (test : X → Bool) (xs : List X) → AreInOrder (map f xs) → AreInOrder (map f (filter test xs))
  order-filter test [] sorted = sorted
  order-filter test (x ∷ xs) sorted =
      order-cond (test x) x (filter test xs) (before-filter (f x) test xs (sorted_head name_cmp (f x) (map f xs) sorted)) (order-filter test xs (sorted_tail name_cmp (f x) (map f xs) sorted))

filter-each : (test other : WiredKid → Bool) (kids : List WiredKid) → AllByRecursion (λ kid. test kid ≡ other kid) kids → filter test kids ≡ filter other kids
filter-each test other [] same = refl
filter-each test other (kid ∷ kids) same = λ i. cond (same.0 i) (kid ∷ filter-each test other kids same.1 i) (filter-each test other kids same.1 i)

each-stays : (names : List Name) (test : WiredKid → Bool) (kids : List WiredKid) → AllByRecursion (λ kid. list_any (is_same_name (name_of kid)) names ≡ not (test kid)) kids → AllByRecursion (λ kid. not (has_name names kid) ≡ test kid) kids
each-stays names test [] is = tt
each-stays names test (kid ∷ kids) is = (ap not is.0 ∙ not-twice (test kid), each-stays names test kids is.1)

module _ (own : Grove Spot) (entries : List Entry) (kids : List WiredKid) (tests : List Bool) (gone_names : List Name) (are : tests ≡ tests_of own entries kids) (named : gone_names ≡ map name_of (lost tests kids)) (order : InOrder kids) where
  names-are : gone_names ≡ map name_of (filter (λ kid. not (survives entries (kid_under (value_of own) kid))) kids)
  names-are = named ∙ ap (λ (ts : List Bool). map name_of (lost ts kids)) are ∙ ap (map name_of) (lost-are own entries kids)

  -- the names of those that go are in order, and those that stay are the others
  pub gone-order : AreInOrder gone_names
  gone-order = subst AreInOrder (sym names-are) (order-filter name_of (λ kid. not (survives entries (kid_under (value_of own) kid))) kids order)

  pub chosen-stay : chosen tests kids ≡ staying gone_names kids
  chosen-stay =
      let test : WiredKid → Bool = λ kid. survives entries (kid_under (value_of own) kid) in
      let others : WiredKid → Bool = λ kid. not (test kid) in
      let called = each-called names-total name_of others kids order in
      ap (λ (ts : List Bool). chosen ts kids) are
      ∙ chosen-are own entries kids
      ∙ sym (ap (λ (ns : List Name). staying ns kids) names-are ∙ filter-each (λ kid. not (has_name (map name_of (filter others kids)) kid)) test kids (each-stays (map name_of (filter others kids)) test kids called))

  pub chosen-kept : shown own (chosen tests kids) ≡ kept entries (shown own kids)
  chosen-kept = ap (λ (ts : List Bool). shown own (chosen ts kids)) are ∙ tests-kept own entries kids

  pub lost-gone : shown own (lost tests kids) ≡ gone entries (shown own kids)
  lost-gone = ap (λ (ts : List Bool). shown own (lost ts kids)) are ∙ tests-gone own entries kids

fewer-by : (kid : Kid) (kids some : List Kid) (b : Bool) → parts_of_kids some ≤ parts_of_kids kids → parts_of_kids (cond b (kid ∷ some) some) ≤ parts_of_kids (kid ∷ kids)
fewer-by kid kids some true less = omega (arith, less, parts-cons kid kids, parts-cons kid some)
fewer-by kid kids some false less = omega (arith, less, parts-cons kid kids)

-- some of the components have no more parts than all
pub fewer-parts : (test : Kid → Bool) (kids : List Kid) → parts_of_kids (filter test kids) ≤ parts_of_kids kids
fewer-parts test [] = omega arith
fewer-parts test (kid ∷ kids) = fewer-by kid kids (filter test kids) (test kid) (fewer-parts test kids)
