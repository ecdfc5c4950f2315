-- The components that entries have are the survivors and those that have started, in the order of their names.
use Rattle.std.proofs.Common.{◌≡◌, ◌↔◌, Bool, true, false, List, [], ◌∷◌, ◌++◌, map, Option, Some, None, Ordering, Less, refl, sym, ◌∙◌, ap, subst}
use Rattle.std.specs.Prelude.{is_some, IsPermutation}
use Rattle.std.specs.Option.{option_to_list}
use Rattle.std.specs.Ordering.{on}
use Rattle.std.specs.Cmp.{IsTotalOrder}
use Rattle.std.specs.List.Sorted.{IsStrictlySortedBy}
use Rattle.std.proofs.lemmas.Cmp.{on_total}
use Rattle.std.proofs.lemmas.List.Sorted.{IsPermutation-refl, IsPermutation-sym, IsPermutation-cons, IsPermutation-trans, IsPermutation-middle, Contains-permutation}
use Rattle.std.proofs.lemmas.Map.Keys.{sorted_head, sorted_tail}
use Rattle.std.proofs.lemmas.Simd.{map-map}
use Rattle.dsde_values.specs.declared.name.Name.{Name}
use Rattle.dsde_values.specs.Path.{name_cmp}
use Rattle.dsde_structure.specs.declared.plan.Entry.{Entry}
use Rattle.dsde_structure.specs.Gather.{is_same_name}
use Rattle.dsde_structure.specs.Survival.{fresh, names, role, roles, survives as stays, AreInOrder, IsInOrder, StaysAs}
use Rattle.dsde_sim_movers.specs.lemmas.Events.{among-from, contains-from}
use Rattle.dsde_sim_tree.specs.declared.sim.Kid.{Kid}
use Rattle.dsde_sim_tree.specs.Tree.{entry_of, name_of, started_as}
use Rattle.dsde_sim_tree.specs.Move.{kept, survives, take_named}
use Rattle.dsde_sim_changing.specs.Survivors.{is_next}
use Rattle.dsde_sim_changing.proofs.Choosing.{chosen, AllSurvive, Chosen}
use Rattle.dsde_sim_changing.proofs.Keeping.{filter-passes, kids-in-order, order-filter}
use Rattle.dsde_sim_movers.specs.lemmas.Named.{names-of}
use Rattle.dsde_sim_movers.proofs.MoverTelling.{same-list}
use Rattle.dsde_core_moves.specs.given.core_flat.lemmas_Names.{names-total}
use Rattle.dsde_core_moving.specs.Placed.{placed, placed_by}
use Rattle.dsde_core_moving.proofs.Taking.{taken-fact, Found}
use Rattle.dsde_core_moving.proofs.Started.{needed, needed_by}
use Rattle.dsde_core_moving.proofs.Needed.{needed-fresh}

-- the first one that has started has the name of the first entry
heads-named : (own : Name) (kid : Kid) (news : List Kid) (rest : List Name) → map name_of (kid ∷ news) ≡ own ∷ rest → (name_of kid ≡ own) × (map name_of news ≡ rest)
heads-named own kid news rest are = (let head : name_of kid ≡ own = cc in head, let tail : map name_of news ≡ rest = cc in tail)

abbrev Names : List Entry → Type 0
Names entries = (kids news : List Kid) → map name_of news ≡ names (needed entries kids) → map name_of (placed entries kids news) ≡ names entries

names-by : (own : Entry) (entries : List Entry) → Names entries → (kids news : List Kid) (found : Option (Kid × List Kid)) → Found own.name kids found → map name_of news ≡ names (needed_by found own (needed entries) kids) →
    map name_of (placed_by found (placed entries) kids news) ≡ own.name ∷ names entries
names-by own entries later kids news (Some one) fact are = λ i. fact.named i ∷ later one.1 news are i
names-by own entries later kids [] None fact are = absurd (let wrong : [] ≡ own.name ∷ names (needed entries kids) = are in cc)
names-by own entries later kids (kid ∷ news) None fact are =
    let heads = heads-named own.name kid news (names (needed entries kids)) are in
    λ i. heads.0 i ∷ later kids news heads.1 i

placed-names : (entries : List Entry) → Names entries
placed-names [] kids news are = refl
placed-names (own ∷ entries) kids news are = names-by own entries (placed-names entries) kids news (take_named own.name kids) (taken-fact own.name kids) are

-- the first component where it has a name, and the others
record Split (name : Name) (items : List Kid) : Type 0 where
  survivor : Option Kid
  others : List Kid
  is : items ≡ option_to_list survivor ++ others
  named : is_some survivor ≡ is_next name items

split-by : (name : Name) (kid : Kid) (kids : List Kid) (b : Bool) → is_same_name (name_of kid) name ≡ b → Split name (kid ∷ kids)
split-by name kid kids true same = record { survivor = Some kid; others = kids; is = refl; named = sym same }
split-by name kid kids false same = record { survivor = None; others = kid ∷ kids; is = refl; named = sym same }

split : (name : Name) (items : List Kid) → Split name items
split name [] = record { survivor = None; others = []; is = refl; named = refl }
split name (kid ∷ kids) = split-by name kid kids (is_same_name (name_of kid) name) refl

abbrev Permutes : List Entry → Type 0
Permutes entries = (items news : List Kid) → AreInOrder (map name_of items) → AllSurvive entries items → map name_of news ≡ names (needed entries items) → IsPermutation (items ++ news) (placed entries items news)

permutes-none : (items news : List Kid) → AllSurvive [] items → map name_of news ≡ [] → IsPermutation (items ++ news) []
permutes-none [] [] survive are = IsPermutation-refl []
permutes-none [] (kid ∷ news) survive are = absurd (let wrong : name_of kid ∷ map name_of news ≡ [] = are in cc)
permutes-none (kid ∷ items) news survive are = absurd (let wrong : false ≡ true = survive.0 in cc)

fresh-first : (own : Entry) (entries : List Entry) → Permutes entries → (items news : List Kid) → AreInOrder (map name_of items) → AllSurvive entries items → map name_of news ≡ own.name ∷ names (needed entries items) →
    IsPermutation (items ++ news) (placed_by None (placed entries) items news)
fresh-first own entries later items [] order survive are = absurd (let wrong : [] ≡ own.name ∷ names (needed entries items) = are in cc)
fresh-first own entries later items (kid ∷ news) order survive are =
    let heads = heads-named own.name kid news (names (needed entries items)) are in
    IsPermutation-trans (items ++ kid ∷ news) (kid ∷ (items ++ news)) (kid ∷ placed entries items news) (IsPermutation-middle items kid news)
    (IsPermutation-cons kid (items ++ news) (placed entries items news) (later items news order survive heads.1))

permutes-by : (own : Entry) (entries : List Entry) → Permutes entries → (items news : List Kid) (survivor : Option Kid) (others : List Kid) → items ≡ option_to_list survivor ++ others → Chosen own entries items survivor others →
    map name_of news ≡ names (needed_by (take_named own.name items) own (needed entries) items) → IsPermutation (items ++ news) (placed_by (take_named own.name items) (placed entries) items news)
permutes-by own entries later items news (Some kid) others is pick are =
    subst (λ (found : Option (Kid × List Kid)). IsPermutation (items ++ news) (placed_by found (placed entries) items news)) (sym pick.found)
    (subst (λ (ks : List Kid). IsPermutation (ks ++ news) (kid ∷ placed entries others news)) (sym is)
    (IsPermutation-cons kid (others ++ news) (placed entries others news)
    (later others news pick.names pick.survive (subst (λ (found : Option (Kid × List Kid)). map name_of news ≡ names (needed_by found own (needed entries) items)) pick.found are))))
permutes-by own entries later items news None others is pick are =
    subst (λ (found : Option (Kid × List Kid)). IsPermutation (items ++ news) (placed_by found (placed entries) items news)) (sym pick.found)
    (fresh-first own entries later items news (subst (λ (ks : List Kid). AreInOrder (map name_of ks)) (sym is) pick.names) (subst (AllSurvive entries) (sym is) pick.survive)
    (subst (λ (found : Option (Kid × List Kid)). map name_of news ≡ names (needed_by found own (needed entries) items)) pick.found are))

placed-permutes : (entries : List Entry) → IsInOrder entries → Permutes entries
placed-permutes [] sorted items news order survive are = permutes-none items news survive are
placed-permutes (own ∷ entries) sorted items news order survive are =
    let first = split own.name items in
    permutes-by own entries (placed-permutes entries (sorted_tail name_cmp own.name (names entries) sorted)) items news first.survivor first.others first.is
    (chosen own entries items first.survivor first.others sorted order survive first.is first.named) are

abbrev by_name : Kid → Kid → Ordering
by_name = on name_of name_cmp

by-name-total : IsTotalOrder by_name
by-name-total = on_total name_of names-total

sorted-by-name : (kids : List Kid) → AreInOrder (map name_of kids) → IsStrictlySortedBy by_name kids
unfolding IsStrictlySortedBy
sorted-by-name [] order = order
sorted-by-name (kid ∷ kids) order =
    (names-of (λ name. name_cmp (name_of kid) name ≡ Less) kids (sorted_head name_cmp (name_of kid) (map name_of kids) order), sorted-by-name kids (sorted_tail name_cmp (name_of kid) (map name_of kids) order))

-- the names of those that have started for entries
started-names : (entries : List Entry) (news : List Kid) → map entry_of news ≡ map started_as entries → map name_of news ≡ names entries
started-names entries news are =
    sym (map-map (λ (entry : Entry). entry.name) entry_of news)
    ∙ ap (map (λ (entry : Entry). entry.name)) are
    ∙ map-map (λ (entry : Entry). entry.name) started_as entries

pub placed-in-order : (entries : List Entry) (kids news all : List Kid) → IsInOrder entries → IsInOrder (map entry_of kids) → map entry_of news ≡ map started_as (fresh (map entry_of kids) entries) →
    IsPermutation (kept entries kids ++ news) all → AreInOrder (map name_of all) → all ≡ placed entries (kept entries kids) news
placed-in-order entries kids news all sorted order are permutes in_order =
    let items = kept entries kids in
    let named : map name_of news ≡ names (needed entries items) = started-names (fresh (map entry_of kids) entries) news are ∙ ap names (sym (needed-fresh entries kids sorted)) in
    let done = placed entries items news in
    let both : IsPermutation all done =
    IsPermutation-trans all (items ++ news) done (IsPermutation-sym (items ++ news) all permutes)
    (placed-permutes entries sorted items news (order-filter (survives entries) kids (kids-in-order kids order)) (filter-passes (survives entries) kids) named) in
    let done_sorted : AreInOrder (map name_of done) = subst AreInOrder (sym (placed-names entries items news named)) sorted in
    same-list by_name by-name-total all done (sorted-by-name all in_order) (sorted-by-name done done_sorted)
    (λ kid there. among-from done kid (Contains-permutation all done kid both (contains-from all kid there)))
    (λ kid there. among-from all kid (Contains-permutation done all kid (IsPermutation-sym all done both) (contains-from done kid there)))

-- they have the names of the entries, and are the survivors and those that have started
pub placed-are : (entries : List Entry) (kids news : List Kid) → IsInOrder entries → IsInOrder (map entry_of kids) → map entry_of news ≡ map started_as (fresh (map entry_of kids) entries) →
    IsPermutation (kept entries kids ++ news) (placed entries (kept entries kids) news) × (map name_of (placed entries (kept entries kids) news) ≡ names entries)
placed-are entries kids news sorted order are =
    let items = kept entries kids in
    let named : map name_of news ≡ names (needed entries items) = started-names (fresh (map entry_of kids) entries) news are ∙ ap names (sym (needed-fresh entries kids sorted)) in
    (placed-permutes entries sorted items news (order-filter (survives entries) kids (kids-in-order kids order)) (filter-passes (survives entries) kids) named, placed-names entries items news named)

-- they have the entries' names and models
module _ (exact : (old new : Entry) → (stays old new ≡ true) ↔ StaysAs old new) where
  abbrev Roles : List Entry → Type 0
  Roles entries = (items news : List Kid) → AreInOrder (map name_of items) → AllSurvive entries items → roles (map entry_of news) ≡ roles (needed entries items) → roles (map entry_of (placed entries items news)) ≡ roles entries

  role-heads : (own : Entry) (kid : Kid) (news : List Kid) (rest : List Entry) → roles (map entry_of (kid ∷ news)) ≡ roles (own ∷ rest) → (role (entry_of kid) ≡ role own) × (roles (map entry_of news) ≡ roles rest)
  role-heads own kid news rest are = (let head : role (entry_of kid) ≡ role own = cc in head, let tail : roles (map entry_of news) ≡ roles rest = cc in tail)

  role-first : (own : Entry) (entries : List Entry) → Roles entries → (items news : List Kid) → AreInOrder (map name_of items) → AllSurvive entries items → roles (map entry_of news) ≡ roles (own ∷ needed entries items) →
      roles (map entry_of (placed_by None (placed entries) items news)) ≡ roles (own ∷ entries)
  role-first own entries later items [] order survive are = absurd (let wrong : [] ≡ role own ∷ roles (needed entries items) = are in cc)
  role-first own entries later items (kid ∷ news) order survive are =
      let heads = role-heads own kid news (needed entries items) are in
      λ i. heads.0 i ∷ later items news order survive heads.1 i

  roles-by : (own : Entry) (entries : List Entry) → Roles entries → (items news : List Kid) (survivor : Option Kid) (others : List Kid) → items ≡ option_to_list survivor ++ others → Chosen own entries items survivor others →
      roles (map entry_of news) ≡ roles (needed_by (take_named own.name items) own (needed entries) items) → roles (map entry_of (placed_by (take_named own.name items) (placed entries) items news)) ≡ roles (own ∷ entries)
  roles-by own entries later items news (Some kid) others is pick are =
      let as_own = (exact (entry_of kid) own).0 pick.is in
      let same : role (entry_of kid) ≡ role own = λ i. (as_own.0 i, as_own.1 i) in
      subst (λ (found : Option (Kid × List Kid)). roles (map entry_of (placed_by found (placed entries) items news)) ≡ roles (own ∷ entries)) (sym pick.found)
      (λ i. same i ∷ later others news pick.names pick.survive (subst (λ (found : Option (Kid × List Kid)). roles (map entry_of news) ≡ roles (needed_by found own (needed entries) items)) pick.found are) i)
  roles-by own entries later items news None others is pick are =
      subst (λ (found : Option (Kid × List Kid)). roles (map entry_of (placed_by found (placed entries) items news)) ≡ roles (own ∷ entries)) (sym pick.found)
      (role-first own entries later items news (subst (λ (ks : List Kid). AreInOrder (map name_of ks)) (sym is) pick.names) (subst (AllSurvive entries) (sym is) pick.survive)
      (subst (λ (found : Option (Kid × List Kid)). roles (map entry_of news) ≡ roles (needed_by found own (needed entries) items)) pick.found are))

  all-roles : (entries : List Entry) → IsInOrder entries → Roles entries
  all-roles [] sorted items news order survive are = refl
  all-roles (own ∷ entries) sorted items news order survive are =
      let first = split own.name items in
      roles-by own entries (all-roles entries (sorted_tail name_cmp own.name (names entries) sorted)) items news first.survivor first.others first.is
      (chosen own entries items first.survivor first.others sorted order survive first.is first.named) are

  pub placed-roles : (entries : List Entry) (kids news : List Kid) → IsInOrder entries → IsInOrder (map entry_of kids) → map entry_of news ≡ map started_as (fresh (map entry_of kids) entries) → roles (map entry_of (placed entries (kept entries kids) news)) ≡ roles entries
  placed-roles entries kids news sorted order are =
      all-roles entries sorted (kept entries kids) news (order-filter (survives entries) kids (kids-in-order kids order)) (filter-passes (survives entries) kids)
      (ap roles are ∙ map-map role started_as (fresh (map entry_of kids) entries) ∙ ap roles (sym (needed-fresh entries kids sorted)))
