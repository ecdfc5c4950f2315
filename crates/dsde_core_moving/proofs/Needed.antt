-- The entries that need a component are those as which none survives.
use Rattle.std.proofs.Common.{◌≡◌, ◌==◌, ◌||◌, ◌&&◌, not, Bool, true, false, cond, List, [], ◌∷◌, map, filter, Option, Some, None, Less, refl, sym, ◌∙◌, ap, subst, is_eq}
use Rattle.std.proofs.lemmas.Map.Keys.{sorted_head, sorted_tail}
use Rattle.std.specs.List.{AllByRecursion, list_any}
use Rattle.std.specs.Ordering.{ordering_reverse}
use Rattle.dsde_values.specs.declared.name.Name.{Name}
use Rattle.dsde_values.specs.Path.{name_cmp}
use Rattle.dsde_values_equality.specs.Same.{are_same_values}
use Rattle.dsde_structure.specs.declared.plan.Entry.{Entry}
use Rattle.dsde_structure.specs.Gather.{is_same_name}
use Rattle.dsde_structure.specs.Survival.{fresh, IsInOrder, names, survives as stays}
use Rattle.dsde_sim_tree.specs.declared.sim.Kid.{Kid}
use Rattle.dsde_sim_tree.specs.Tree.{entry_of, name_of}
use Rattle.dsde_sim_tree.specs.Move.{kept, survives, take_named}
use Rattle.dsde_sim_changing.proofs.Keeping.{filter-passes}
use Rattle.dsde_core_moves.specs.given.core_flat.lemmas_Names.{name-exact, names-total}
use Rattle.dsde_core_moving.proofs.Taking.{has_named, taken-fact, Found}
use Rattle.dsde_core_moving.proofs.Started.{needed, needed_by}

apart : (name other : Name) → name_cmp name other ≡ Less → is_same_name name other ≡ false
apart name other less = ap is_eq less

apart-back : (name other : Name) → name_cmp name other ≡ Less → is_same_name other name ≡ false
apart-back name other less = ap is_eq (names-total.antisymm other name ∙ ap ordering_reverse less)

each-later : (own : Entry) (entries : List Entry) → AllByRecursion (λ name. name_cmp own.name name ≡ Less) (names entries) → AllByRecursion (λ one. name_cmp own.name one.name ≡ Less) entries
each-later own [] less = tt
each-later own (one ∷ entries) less = (less.0, each-later own entries less.1)

each-both : {X : Type 0} (P Q R : X → Type 0) → ((x : X) → P x → Q x → R x) → (xs : List X) → AllByRecursion P xs → AllByRecursion Q xs → AllByRecursion R xs
each-both P Q R gives [] one other = tt
each-both P Q R gives (x ∷ xs) one other = (gives x one.0 other.0, each-both P Q R gives xs one.1 other.1)

each-gives : {X : Type 0} (P Q : X → Type 0) → ((x : X) → P x → Q x) → (xs : List X) → AllByRecursion P xs → AllByRecursion Q xs
each-gives P Q gives [] all = tt
each-gives P Q gives (x ∷ xs) all = (gives x all.0, each-gives P Q gives xs all.1)

filter-each : {X : Type 0} (test other : X → Bool) (xs : List X) → AllByRecursion (λ x. test x ≡ other x) xs → filter test xs ≡ filter other xs
filter-each test other [] same = refl
filter-each test other (x ∷ xs) same = λ i. cond (same.0 i) (x ∷ filter-each test other xs same.1 i) (filter-each test other xs same.1 i)

-- no component has the name of an entry
abbrev pub is_without : List Kid → Entry → Bool
is_without kids own = not (has_named own.name kids)

by-taken : (own : Entry) (entries : List Entry) (kids : List Kid) → ((others : List Kid) → needed entries others ≡ filter (is_without others) entries) → AllByRecursion (λ one. name_cmp own.name one.name ≡ Less) entries →
    (found : Option (Kid × List Kid)) → Found own.name kids found → needed_by found own (needed entries) kids ≡ filter (is_without kids) (own ∷ entries)
by-taken own entries kids later less (Some taken) fact =
    later taken.1
    ∙ filter-each (is_without taken.1) (is_without kids) entries
    (each-gives (λ one. name_cmp own.name one.name ≡ Less) (λ one. is_without taken.1 one ≡ is_without kids one) (λ one before. ap not (fact.others one.name (apart own.name one.name before))) entries less)
    ∙ sym (ap (λ (b : Bool). cond (not b) (own ∷ filter (is_without kids) entries) (filter (is_without kids) entries)) fact.has)
by-taken own entries kids later less None fact =
    ap (λ (es : List Entry). own ∷ es) (later kids)
    ∙ sym (ap (λ (b : Bool). cond (not b) (own ∷ filter (is_without kids) entries) (filter (is_without kids) entries)) fact)

needed-without : (entries : List Entry) (kids : List Kid) → IsInOrder entries → needed entries kids ≡ filter (is_without kids) entries
needed-without [] kids order = refl
needed-without (own ∷ entries) kids order =
    by-taken own entries kids (λ others. needed-without entries others (sorted_tail name_cmp own.name (names entries) order)) (each-later own entries (sorted_head name_cmp own.name (names entries) order))
    (take_named own.name kids) (taken-fact own.name kids)

unlike-fails : (kid : Kid) (own : Entry) → is_same_name (name_of kid) own.name ≡ false → stays (entry_of kid) own ≡ false
unlike-fails kid own is = λ i. is i && (entry_of kid).model.0 == own.model.0 && (own.soft || are_same_values (entry_of kid).args own.args)

none-survives : (kid : Kid) (name : Name) → is_same_name (name_of kid) name ≡ true → (entries : List Entry) → AllByRecursion (λ own. name_cmp name own.name ≡ Less) entries → list_any (stays (entry_of kid)) entries ≡ false
none-survives kid name is [] less = refl
none-survives kid name is (own ∷ entries) less =
    ap (λ (b : Bool). b || list_any (stays (entry_of kid)) entries) (unlike-fails kid own (ap (λ (n : Name). is_same_name n own.name) (name-exact (name_of kid) name is) ∙ apart name own.name less.0))
    ∙ none-survives kid name is entries less.1

or-false : (one : Bool) → (one || false) ≡ one
or-false true = refl
or-false false = refl

-- a component survives as the entry of its name or not at all
abbrev Knows : List Entry → Kid → Entry → Type 0
Knows entries kid own = is_same_name (name_of kid) own.name ≡ true → survives entries kid ≡ stays (entry_of kid) own

one-entry : (kid : Kid) (entries : List Entry) → IsInOrder entries → AllByRecursion (Knows entries kid) entries
one-entry kid [] order = tt
one-entry kid (first ∷ entries) order =
    let less = each-later first entries (sorted_head name_cmp first.name (names entries) order) in (
      λ is. ap (λ (rest : Bool). stays (entry_of kid) first || rest) (none-survives kid first.name is entries less) ∙ or-false (stays (entry_of kid) first),
      each-both (Knows entries kid) (λ own. name_cmp first.name own.name ≡ Less) (Knows (first ∷ entries) kid)
          (λ own one before is.
          ap (λ (b : Bool). b || list_any (stays (entry_of kid)) entries)
          (unlike-fails kid first (ap (λ (n : Name). is_same_name n first.name) (name-exact (name_of kid) own.name is) ∙ apart-back first.name own.name before))
          ∙ one is)
          entries (one-entry kid entries (sorted_tail name_cmp first.name (names entries) order)) less,
    )

each-entry : (entries : List Entry) → IsInOrder entries → (kids : List Kid) → AllByRecursion (λ own. AllByRecursion (λ kid. Knows entries kid own) kids) entries
each-entry entries order [] = none entries
  where
    none : (list : List Entry) → AllByRecursion (λ own. Unit {0}) list
    none [] = tt
    none (own ∷ list) = (tt, none list)
each-entry entries order (kid ∷ kids) =
    each-both (Knows entries kid) (λ own. AllByRecursion (λ kid. Knows entries kid own) kids) (λ own. AllByRecursion (λ kid. Knows entries kid own) (kid ∷ kids)) (λ own one others. (one, others))
    entries (one-entry kid entries order) (each-entry entries order kids)

module _ (entries : List Entry) (own : Entry) where
  abbrev survivor_of : List Kid → Bool
  survivor_of kids = list_any (λ old. stays old own) (map entry_of kids)

  by-both : (kid : Kid) (kids others : List Kid) (test same : Bool) → survives entries kid ≡ test → is_same_name (name_of kid) own.name ≡ same → Knows entries kid own → has_named own.name others ≡ survivor_of kids →
      has_named own.name (cond test (kid ∷ others) others) ≡ (stays (entry_of kid) own || survivor_of kids)
  by-both kid kids others true true tested is knows rest =
      ap (λ (b : Bool). b || has_named own.name others) is ∙ sym (ap (λ (b : Bool). b || survivor_of kids) (sym (knows is) ∙ tested))
  by-both kid kids others true false tested is knows rest =
      ap (λ (b : Bool). b || has_named own.name others) is ∙ rest ∙ sym (ap (λ (b : Bool). b || survivor_of kids) (unlike-fails kid own is))
  by-both kid kids others false true tested is knows rest = rest ∙ sym (ap (λ (b : Bool). b || survivor_of kids) (sym (knows is) ∙ tested))
  by-both kid kids others false false tested is knows rest = rest ∙ sym (ap (λ (b : Bool). b || survivor_of kids) (unlike-fails kid own is))

  kept-named : (kids : List Kid) → AllByRecursion (λ kid. Knows entries kid own) kids → has_named own.name (kept entries kids) ≡ survivor_of kids
  kept-named [] knows = refl
  kept-named (kid ∷ kids) knows = by-both kid kids (kept entries kids) (survives entries kid) (is_same_name (name_of kid) own.name) refl refl knows.0 (kept-named kids knows.1)

-- among the survivors the fresh entries have no component, and all others do
pub needed-fresh : (entries : List Entry) (kids : List Kid) → IsInOrder entries → needed entries (kept entries kids) ≡ fresh (map entry_of kids) entries
needed-fresh entries kids order =
    needed-without entries (kept entries kids) order
    ∙ filter-each (is_without (kept entries kids)) (λ new. not (list_any (λ old. stays old new) (map entry_of kids))) entries
    (each-gives (λ own. AllByRecursion (λ kid. Knows entries kid own) kids) (λ own. is_without (kept entries kids) own ≡ not (survivor_of entries own kids)) (λ own knows. ap not (kept-named entries own kids knows)) entries (each-entry entries order kids))

-- no survivor has the name of a fresh entry
pub fresh-without : (entries : List Entry) (kids : List Kid) → IsInOrder entries → AllByRecursion (λ own. is_without (kept entries kids) own ≡ true) (fresh (map entry_of kids) entries)
fresh-without entries kids order =
    subst (AllByRecursion (λ own. is_without (kept entries kids) own ≡ true)) (sym (needed-without entries (kept entries kids) order) ∙ needed-fresh entries kids order) (filter-passes (is_without (kept entries kids)) entries)
