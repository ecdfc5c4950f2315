-- What a map by name answers, as a list of components.
use Rattle.std.proofs.Common.{◌≡◌, Bool, true, false, ◌||◌, List, [], ◌∷◌, map, Option, Some, Ordering, Less, Equal, Greater, refl, sym, ◌∙◌, ap, if◌then◌else◌, is_some}
use Rattle.std.specs.Cmp.{IsTotalOrder}
use Rattle.std.specs.Ordering.{is_lt, is_eq, ordering_reverse, match_ordering}
use Rattle.std.specs.BTreeMap.{insert_entry, is_at}
use Rattle.std.specs.Map.{lookup}
use Rattle.dsde_values.specs.declared.name.Name.{Name}
use Rattle.dsde_values.specs.Path.{name_cmp}
use Rattle.dsde_executive_plans.specs.given.structure.plan_Entry.{Entry}
use Rattle.dsde_executive_plans.specs.given.structure.Gather.{is_same_name}
use Rattle.dsde_executive_plans.specs.Layout.{inserted, is_there}
use Rattle.dsde_executive_planner.specs.declared.entries.Chosen.{Chosen}
use Rattle.dsde_executive_planner.specs.Entries.{entry_of}

-- two names are the same from either side
eq-reverse : (order : Ordering) → is_eq (ordering_reverse order) ≡ is_eq order
eq-reverse Less = refl
eq-reverse Equal = refl
eq-reverse Greater = refl

same-turned : IsTotalOrder name_cmp → (name other : Name) → is_eq (name_cmp name other) ≡ is_same_name other name
same-turned total name other = sym (ap is_eq (total.antisymm other name) ∙ eq-reverse (name_cmp name other))

found-at : (here same : Bool) (own : Chosen) (rest : Option Chosen) (others : Bool) → here ≡ same → is_some rest ≡ others → is_some (if here then Some own else rest) ≡ (same || others)
found-at true true own rest others is later = refl
found-at true false own rest others is later = cc
found-at false true own rest others is later = cc
found-at false false own rest others is later = later

pub found : IsTotalOrder name_cmp → (name : Name) (owns : List (Name × Chosen)) → is_some (lookup (is_at (name_cmp name)) owns) ≡ is_there name (map entry_of owns)
found total name [] = refl
found total name (own ∷ owns) =
    found-at (is_eq (name_cmp name own.0)) (is_same_name own.0 name) own.1 (lookup (is_at (name_cmp name)) owns) (is_there name (map entry_of owns))
    (same-turned total name own.0) (found total name owns)

left-false : (one other : Bool) → (one || other) ≡ false → one ≡ false
left-false true other is = cc
left-false false other is = refl

right-false : (one other : Bool) → (one || other) ≡ false → other ≡ false
right-false true other is = cc
right-false false other is = is

put-at : (total : IsTotalOrder name_cmp) (name : Name) (chosen : Chosen) (own : Name × Chosen) (owns : List (Name × Chosen)) (order : Ordering) → name_cmp name own.0 ≡ order → is_same_name own.0 name ≡ false
    → map entry_of (insert_entry name_cmp owns name chosen) ≡ inserted (entry_of (name, chosen)) (map entry_of owns)
    → map entry_of (match_ordering order ((name, chosen) ∷ own ∷ owns) ((own.0, chosen) ∷ owns) (own ∷ insert_entry name_cmp owns name chosen))
    ≡ (if is_lt order then entry_of (name, chosen) ∷ entry_of own ∷ map entry_of owns else entry_of own ∷ inserted (entry_of (name, chosen)) (map entry_of owns))
put-at total name chosen own owns Less is other later = refl
put-at total name chosen own owns Equal is other later =
    absurd (let two : true ≡ false = sym (ap is_eq is) ∙ same-turned total name own.0 ∙ other in cc two)
put-at total name chosen own owns Greater is other later = ap (λ (l : List Entry). entry_of own ∷ l) later

pub put_in : IsTotalOrder name_cmp → (name : Name) (chosen : Chosen) (owns : List (Name × Chosen)) → is_there name (map entry_of owns) ≡ false
    → map entry_of (insert_entry name_cmp owns name chosen) ≡ inserted (entry_of (name, chosen)) (map entry_of owns)
put_in total name chosen [] absent = refl
put_in total name chosen (own ∷ owns) absent =
    put-at total name chosen own owns (name_cmp name own.0) refl
    (left-false (is_same_name own.0 name) (is_there name (map entry_of owns)) absent)
    (put_in total name chosen owns (right-false (is_same_name own.0 name) (is_there name (map entry_of owns)) absent))
