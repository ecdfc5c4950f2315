-- What is found at an index, and what a binary search finds, among components in the order of their names.
use Rattle.std.proofs.Common.{◌≡◌, ℕ, zero, suc, ◌<◌, Bool, true, false, ◌||◌, inl, inr, add-one, List, [], ◌∷◌, map, length, get_or, Result, Err, refl, sym, ◌∙◌, ap, subst, arith, rules}
use Rattle.std.specs.declared.cmp.Ordering.{Ordering}
use Rattle.std.specs.declared.cmp.Ordering.TheVariants.{Less, Equal, Greater}
use Rattle.std.specs.Cmp.{IsTotalOrder}
use Rattle.std.specs.Cmp.Rules.{comparing}
use Rattle.std.specs.List.{AllByRecursion, list_any}
use Rattle.std.specs.List.Sorted.{IsBinarySearchResult, IsSortedBy}
use Rattle.std.specs.Map.{keys_of}
use Rattle.std.specs.Ordering.{is_eq, is_lt, ordering_reverse}
use Rattle.std.proofs.lemmas.Bool.{cases_lt}
use Rattle.std.proofs.lemmas.Cmp.{tied_itself}
use Rattle.std.proofs.lemmas.List.Sorted.{searchable_from_sorted}
use Rattle.std.proofs.lemmas.Map.Keys.{sorted_head, sorted_tail}
use Rattle.dsde_values.specs.declared.name.Name.{Name}
use Rattle.dsde_values.specs.Path.{name_cmp}
use Rattle.dsde_executive_plans.specs.given.structure.plan_Entry.{Entry}
use Rattle.dsde_executive_plans.specs.given.structure.Gather.{is_same_name}
use Rattle.dsde_executive_plans.specs.given.structure.Survival.{AreInOrder, IsInOrder, names}
use Rattle.dsde_executive_plans.specs.Layout.{is_there}
use Rattle.dsde_executive_planner.specs.declared.entries.Chosen.{Chosen}
use Rattle.dsde_executive_planner.specs.Entries.{entry_of}

pub total : IsTotalOrder name_cmp
total = search (comparing, rules)

-- a component at an index

or-true : (b : Bool) → (b || true) ≡ true
or-true true = refl
or-true false = refl

any-at : (test : Entry → Bool) (entries : List Entry) (k : ℕ) (d : Entry) → k < length entries → test (get_or entries k d) ≡ true → list_any test entries ≡ true
any-at test [] k d below is = absurd (omega arith)
any-at test (entry ∷ entries) zero d below is = ap (λ (b : Bool). b || list_any test entries) is
any-at test (entry ∷ entries) (suc k) d below is = ap (λ (b : Bool). test entry || b) (any-at test entries k d (omega arith) is) ∙ or-true (test entry)

pub there-at : (name : Name) (entries : List Entry) (index : ℕ) → index < length entries → (entry : Entry) → entry ≡ get_or entries index entry → entry.name ≡ name → is_there name entries ≡ true
there-at name entries index below entry is named =
    any-at (λ own. is_same_name own.name name) entries index entry below
    (ap (λ (own : Entry). is_same_name own.name name) (sym is) ∙ ap (λ (own : Name). is_same_name own name) named ∙ ap is_eq (tied_itself total name))

pub there-found : (name : Name) (entries : List Entry) (index : ℕ) → index < length entries → ((d : Entry) → name_cmp (get_or entries index d).name name ≡ Equal) → is_there name entries ≡ true
there-found name [] index below same = absurd (omega arith)
there-found name (entry ∷ entries) index below same =
    any-at (λ own. is_same_name own.name name) (entry ∷ entries) index entry below (ap is_eq (same entry))

-- names that rise

at-index : (P : Name → Type 0) (entries : List Entry) → AllByRecursion P (names entries) → (k : ℕ) (d : Entry) → k < length entries → P (get_or entries k d).name
at-index P [] all k d below = absurd (omega arith)
at-index P (entry ∷ entries) all zero d below = all.0
at-index P (entry ∷ entries) all (suc k) d below = at-index P entries all.1 k d (omega arith)

back : (r : Ordering) → r ≡ Less → is_lt (ordering_reverse r) ≡ false
back r less = rw less refl

rises : (entries : List Entry) → IsInOrder entries → (k : ℕ) (d : Entry) → suc k < length entries → is_lt (name_cmp (get_or entries (suc k) d).name (get_or entries k d).name) ≡ false
rises [] sorted k d below = absurd (omega arith)
rises (entry ∷ entries) sorted zero d below =
    ap is_lt (total.antisymm (get_or entries 0 d).name entry.name)
    ∙ back (name_cmp entry.name (get_or entries 0 d).name) (at-index (λ name. name_cmp entry.name name ≡ Less) entries (sorted_head name_cmp entry.name (names entries) sorted) 0 d (omega arith))
rises (entry ∷ entries) sorted (suc k) d below = rises entries (sorted_tail name_cmp entry.name (names entries) sorted) k d (omega arith)

in-order : (entries : List Entry) → IsInOrder entries → IsSortedBy (λ a b. is_lt (name_cmp a.name b.name)) entries
in-order entries sorted k d low below = rw add-one (rises entries sorted k d (omega (arith, below)))

-- a name that is not found

differ : (r : Ordering) → (r ≡ Equal → ⊥) → is_eq r ≡ false
differ Less never = refl
differ Equal never = absurd (never refl)
differ Greater never = refl

less-differs : (r : Ordering) → r ≡ Less → r ≡ Equal → ⊥
less-differs r less equal = let e : Less ≡ Equal = sym less ∙ equal in cc

greater-differs : (r : Ordering) → r ≡ Greater → r ≡ Equal → ⊥
greater-differs r greater equal = let e : Greater ≡ Equal = sym greater ∙ equal in cc

none-there : (name : Name) (entries : List Entry) → ((k : ℕ) (d : Entry) → k < length entries → name_cmp (get_or entries k d).name name ≡ Equal → ⊥) → is_there name entries ≡ false
none-there name [] never = refl
none-there name (entry ∷ entries) never =
    ap (λ (b : Bool). b || is_there name entries) (differ (name_cmp entry.name name) (never 0 entry (omega arith)))
    ∙ none-there name entries (λ k d below same. never (suc k) d (omega arith) same)

pub none-found : (name : Name) (entries : List Entry) → IsInOrder entries → (index : ℕ) → IsBinarySearchResult (λ entry. name_cmp entry.name name) entries (let r : Result ℕ ℕ = Err index in r) → is_there name entries ≡ false
none-found name entries sorted index is =
    let parted = is (searchable_from_sorted total (λ entry. entry.name) entries name (in-order entries sorted)) in
    none-there name entries (λ k d below. elim (cases_lt k index) [
      | inl before ↦ less-differs (name_cmp (get_or entries k d).name name) (parted.0 k d (omega arith) before)
      | inr behind ↦ greater-differs (name_cmp (get_or entries k d).name name) (parted.1 k d behind below)
    ])

-- the components of a map are in the order of its names

names-kept : (owns : List (Name × Chosen)) → keys_of owns ≡ names (map entry_of owns)
names-kept [] = refl
names-kept (own ∷ owns) = ap (λ (others : List Name). own.0 ∷ others) (names-kept owns)

themselves : (owns : List (Name × Chosen)) → map (λ own. own) owns ≡ owns
themselves [] = refl
themselves (own ∷ owns) = ap (λ (others : List (Name × Chosen)). own ∷ others) (themselves owns)

pub listed-in-order : (owns listed : List (Name × Chosen)) → map (λ own. own) listed ≡ owns → AreInOrder (keys_of owns) → IsInOrder (map entry_of listed)
listed-in-order owns listed all sorted = subst AreInOrder (ap keys_of (sym all ∙ themselves listed) ∙ names-kept listed) sorted
