-- A component that is put where its name stands keeps the order of names.
use Rattle.std.proofs.Common.{◌≡◌, Bool, true, false, ◌||◌, List, [], ◌∷◌, Ordering, Less, Equal, Greater, refl, sym, ◌∙◌, ap, if◌then◌else◌}
use Rattle.std.specs.Cmp.{IsTotalOrder}
use Rattle.std.specs.List.{AllByRecursion}
use Rattle.std.specs.List.Sorted.{IsStrictlySortedBy}
use Rattle.std.specs.Ordering.{is_lt, is_eq, ordering_reverse}
use Rattle.dsde_values.specs.declared.name.Name.{Name}
use Rattle.dsde_values.specs.Path.{name_cmp}
use Rattle.dsde_structure.specs.declared.plan.Entry.{Entry}
use Rattle.dsde_structure.specs.Gather.{is_same_name}
use Rattle.dsde_executive_plans.specs.Layout.{inserted, is_there}
use Rattle.dsde_structure.specs.Survival.{names, IsInOrder}

pub empty-in-order : IsInOrder []
unfolding IsStrictlySortedBy
empty-in-order = tt

-- a name that stands before those of components
abbrev IsBefore : Name → List Entry → Type 0
IsBefore name entries = AllByRecursion (λ (other : Name). name_cmp name other ≡ Less) (names entries)

before-all : IsTotalOrder name_cmp → (name other : Name) (entries : List Entry) → name_cmp name other ≡ Less → IsBefore other entries → IsBefore name entries
before-all order name other [] less all = tt
before-all order name other (entry ∷ entries) less all =
    (order.trans name other entry.name less all.0, before-all order name other entries less all.1)

before-chosen : (name : Name) (entry first : Entry) (later : List Entry) (goes : Bool) → name_cmp name entry.name ≡ Less → IsBefore name (first ∷ later) → IsBefore name (inserted entry later)
    → IsBefore name (if goes then entry ∷ first ∷ later else first ∷ inserted entry later)
before-chosen name entry first later true less all rest = (less, all)
before-chosen name entry first later false less all rest = (all.0, rest)

before-inserted : (name : Name) (entry : Entry) (entries : List Entry) → name_cmp name entry.name ≡ Less → IsBefore name entries → IsBefore name (inserted entry entries)
before-inserted name entry [] less all = (less, tt)
before-inserted name entry (first ∷ later) less all =
    before-chosen name entry first later (is_lt (name_cmp entry.name first.name)) less all (before-inserted name entry later less all.1)

left-false : (one other : Bool) → (one || other) ≡ false → one ≡ false
left-false true other is = cc
left-false false other is = cc

right-false : (one other : Bool) → (one || other) ≡ false → other ≡ false
right-false true other is = cc
right-false false other is = is

chosen-in-order : IsTotalOrder name_cmp → (entry first : Entry) (later : List Entry) (found : Ordering) → name_cmp entry.name first.name ≡ found → IsInOrder (first ∷ later)
    → is_same_name first.name entry.name ≡ false → IsInOrder (inserted entry later) → IsInOrder (if is_lt found then entry ∷ first ∷ later else first ∷ inserted entry later)
unfolding IsStrictlySortedBy
chosen-in-order order entry first later Less is sorted other rest =
    ((is, before-all order entry.name first.name later is sorted.0), sorted)
chosen-in-order order entry first later Equal is sorted other rest =
    let same : name_cmp first.name entry.name ≡ Equal = order.antisymm first.name entry.name ∙ ap ordering_reverse is in
    absurd (let two : true ≡ false = sym (ap is_eq same) ∙ other in cc two)
chosen-in-order order entry first later Greater is sorted other rest =
    let less : name_cmp first.name entry.name ≡ Less = order.antisymm first.name entry.name ∙ ap ordering_reverse is in
    (before-inserted first.name entry later less sorted.0, rest)

pub inserted-in-order : IsTotalOrder name_cmp → (entry : Entry) (entries : List Entry) → IsInOrder entries → is_there entry.name entries ≡ false → IsInOrder (inserted entry entries)
unfolding IsStrictlySortedBy
inserted-in-order order entry [] sorted absent = (tt, tt)
inserted-in-order order entry (first ∷ later) sorted absent =
    chosen-in-order order entry first later (name_cmp entry.name first.name) refl sorted
    (left-false (is_same_name first.name entry.name) (is_there entry.name later) absent)
    (inserted-in-order order entry later sorted.1 (right-false (is_same_name first.name entry.name) (is_there entry.name later) absent))
