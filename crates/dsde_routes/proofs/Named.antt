-- What is found by names.
use Rattle.std.proofs.Common.{rules, ◌≡◌, unwrap_or, Bool, true, false, cond, List, [], ◌∷◌, ◌++◌, refl, sym, ap, ◌∙◌, Option, Some, None, Less, Equal, Greater, Ordering}
use Rattle.std.specs.BTreeMap.{BTreeMap, get}
use Rattle.std.specs.Map.{lookup}
use Rattle.std.specs.Ordering.{is_eq}
use Rattle.std.specs.Cmp.{IsTotalOrder}
use Rattle.std.specs.Cmp.Rules.{comparing}
use Rattle.dsde_values.specs.declared.name.Name.{Name}
use Rattle.dsde_values.specs.Path.{name_cmp}
use Rattle.dsde_routes_wiring.specs.given.structure.Gather.{is_same_name}
use Rattle.dsde_routes.specs.declared.sent.Sent.{Sent}
use Rattle.dsde_routes_wiring.specs.declared.row.Passing.{Passing}
use Rattle.dsde_routes.specs.Passing.{found, is_name}
use Rattle.std.proofs.lemmas.List.{append-nil}
use Rattle.dsde_routes.specs.Sents.{added}

pub name-total : IsTotalOrder name_cmp
name-total = search (comparing, rules)

module _ {X : Type 0} where
  lookup-same : (test other : Name → Bool) → ((name : Name) → test name ≡ other name) → (entries : List (Name × X)) → lookup test entries ≡ lookup other entries
  lookup-same test other same [] = refl
  lookup-same test other same (entry ∷ entries) = λ i. cond (same entry.0 i) (Some entry.1) (lookup-same test other same entries i)

  -- one name finds what the other does
  pub lookup-tied : (name other : Name) → is_same_name name other ≡ true → (entries : List (Name × X)) → lookup (is_name name) entries ≡ lookup (is_name other) entries
  lookup-tied name other is entries = lookup-same (is_name name) (is_name other) (λ own. ap is_eq (name-total.congr name other own (by (name_cmp name other) is))) entries
    where
      by : (o : Ordering) → is_eq o ≡ true → o ≡ Equal
      by Less is = absurd (cc)
      by Equal is = refl
      by Greater is = absurd (cc)

-- the first that is sent under a name stays
pub add-first : (key name other : Name) (sent kept : Sent) (old new : List (Name × Sent)) → key ≡ name → kept ≡ unwrap_or (found old key) sent → found new other ≡ cond (is_same_name key other) (Some kept) (found old other)
    → (entries : List (Name × Sent)) → entries ≡ new → found entries other ≡ added name sent old other
add-first key name other sent kept old new here is put entries same =
    ap (λ own. found own other) same ∙ put ∙ by (is_same_name key other) refl (found old other) refl ∙ ap (λ own. added own sent old other) here
  where
    by : (b : Bool) → is_same_name key other ≡ b → (o : Option Sent) → found old other ≡ o → cond b (Some kept) o ≡ (elim o [ Some own ↦ Some own | None ↦ cond b (Some sent) None ])
    by true tied None none = ap Some (is ∙ ap (λ o. unwrap_or o sent) (lookup-tied key other tied old ∙ none))
    by true tied (Some own) some = ap Some (is ∙ ap (λ o. unwrap_or o sent) (lookup-tied key other tied old ∙ some))
    by false tied None none = refl
    by false tied (Some own) some = refl

-- more comes to one name
pub more-to : (key name other : Name) (old new : BTreeMap Name (List Passing)) (list whole more : List Passing) → key ≡ name → list ≡ unwrap_or (get name_cmp old key) [] → whole ≡ list ++ more →
    get name_cmp new other ≡ cond (is_same_name key other) (Some whole) (get name_cmp old other) → (entries : List (Name × List Passing)) → entries ≡ new.entries →
    unwrap_or (lookup (is_name other) entries) [] ≡ unwrap_or (get name_cmp old other) [] ++ cond (is_same_name name other) more []
more-to key name other old new list whole more here had is put entries same =
    ap (λ own. unwrap_or (lookup (is_name other) own) []) same
    ∙ by (is_same_name key other) refl put ∙ ap (λ own. unwrap_or (get name_cmp old other) [] ++ cond (is_same_name own other) more []) here
  where
    by : (b : Bool) → is_same_name key other ≡ b → get name_cmp new other ≡ cond b (Some whole) (get name_cmp old other) → unwrap_or (get name_cmp new other) [] ≡ unwrap_or (get name_cmp old other) [] ++ cond b more []
    by true tied put = ap (λ own. unwrap_or own []) put ∙ is ∙ ap (λ own. own ++ more) (had ∙ ap (λ own. unwrap_or own []) (lookup-tied key other tied old.entries))
    by false tied put = ap (λ own. unwrap_or own []) put ∙ sym (append-nil (unwrap_or (get name_cmp old other) []))
