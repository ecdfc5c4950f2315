-- What an index has once a number is added to those at a component.
use Rattle.std.proofs.Common.{◌≡◌, ℕ, Bool, true, false, List, [], ◌∷◌, ◌++◌, Option, Some, Ordering, Less, Equal, Greater, Result, Ok, Err, OnOk, refl, sym, ap, ◌∙◌, append-nil, cond, if◌then◌else◌, unwrap_or}
use Rattle.std.specs.Prelude.{◌↔◌}
use Rattle.std.specs.BTreeMap.{BTreeMap, Updates, get, is_at}
use Rattle.std.specs.Map.{lookup}
use Rattle.std.specs.Ordering.{is_eq}
use Rattle.dsde_values.specs.declared.name.Name.{Name}
use Rattle.dsde_values.specs.Path.{name_cmp}
use Rattle.dsde_structure.specs.Gather.{is_same_name}
use Rattle.dsde_routes_wiring.specs.Numbers.{numbers_named}

equal-is : (order : Ordering) → is_eq order ≡ true → order ≡ Equal
equal-is Less is = absurd (cc)
equal-is Equal is = refl
equal-is Greater is = absurd (cc)

added-at : (here : Bool) (had got : Option (List ℕ)) (numbers after : List ℕ) (number : ℕ) → got ≡ cond here (Some after) had → (here ≡ true → numbers ≡ unwrap_or had []) → after ≡ numbers ++ number ∷ []
    → unwrap_or got [] ≡ unwrap_or had [] ++ (if here then number ∷ [] else [])
added-at true had got numbers after number is at whole =
    ap (λ (own : Option (List ℕ)). unwrap_or own []) is ∙ whole ∙ ap (λ (own : List ℕ). own ++ number ∷ []) (at refl)
added-at false had got numbers after number is at whole =
    ap (λ (own : Option (List ℕ)). unwrap_or own []) is ∙ sym (append-nil (unwrap_or had []))

-- what is written at a name, and what a map with the same entries then has
pub added : ((name other : Name) → (name_cmp name other ≡ Equal) ↔ (name ≡ other)) → (before after : BTreeMap Name (List ℕ)) (key name : Name) (numbers more : List ℕ) (number : ℕ)
    → key ≡ name → numbers ≡ unwrap_or (get name_cmp before key) [] → more ≡ numbers ++ number ∷ [] → Updates name_cmp before after key (Some more)
    → (entries : List (Name × List ℕ)) → entries ≡ after.entries
    → (other : Name) → unwrap_or (lookup (is_at (name_cmp other)) entries) [] ≡ numbers_named before other ++ (if is_same_name name other then number ∷ [] else [])
added one before after key name numbers more number here had whole puts entries same other =
    added-at (is_same_name key other) (get name_cmp before other) (lookup (is_at (name_cmp other)) entries) numbers more number (ap (lookup (is_at (name_cmp other))) same ∙ puts.0 other)
    (λ is. had ∙ ap (λ (own : Name). unwrap_or (get name_cmp before own) []) ((one key other).0 (equal-is (name_cmp key other) is)))
    whole
    ∙ ap (λ (own : Name). numbers_named before other ++ (if is_same_name own other then number ∷ [] else [])) here

pub ok-then : {X E : Type 0} (result : Result X E) (P Q : Type 0) → (P → Q) → OnOk result P → OnOk result Q
ok-then (Ok value) P Q gives holds = gives holds
ok-then (Err end) P Q gives holds = tt
