-- An order that numbers draw of some items, of which some wait for others.
use Rattle.std.specs.Prelude.{◌≡◌, ℕ, zero, suc, ◌%◌, not, Bool, true, false, List, [], ◌∷◌, length, map, filter, Option, Some, None}
use Rattle.std.specs.List.{AllByRecursion, list_all, slice_get}

-- one of a list, and the others
pub record Pick (A : Type 0) : Type 0 where
  pub own : A
  pub others : List A

abbrev pub more : {A : Type 0} → A → Pick A → Pick A
more own pick = record { own = pick.own; others = own ∷ pick.others }

-- each of a list, with the others
abbrev pub picks : {A : Type 0} → List A → List (Pick A)
picks [] = []
picks (own ∷ later) = record { own = own; others = later } ∷ map (more own) (picks later)

-- it waits for none of the others
abbrev pub is_ready : {A : Type 0} → (A → A → Bool) → Pick A → Bool
is_ready waits pick = list_all (λ other. not (waits pick.own other)) pick.others

abbrev pub ready : {A : Type 0} → (A → A → Bool) → List A → List (Pick A)
ready waits left = filter (is_ready waits) (picks left)

-- Each number draws one of those that are ready, counted from 0, by its rest at their count; so many are drawn.
abbrev pub drawn : {A : Type 0} → (A → A → Bool) → ℕ → List A → List ℕ → List A
drawn waits zero left words = []
drawn waits (suc count) left [] = []
drawn waits (suc count) left (word ∷ words) = elim (slice_get (ready waits left) (word % length (ready waits left))) [
  | Some pick ↦ pick.own ∷ drawn waits count pick.others words
  | None ↦ []
]

-- This one waits for none of those, and who waits for it waits for all of those between.
abbrev pub IsPassed : {A : Type 0} → (A → A → Bool) → A → List A → Type 0
IsPassed waits own [] = Unit {0}
IsPassed waits own (next ∷ later) = AllByRecursion (λ other. waits other own ≡ true → waits other next ≡ true) later × IsPassed waits own later

-- None waits for a later one, and who waits for one waits for all between.
abbrev pub IsOrderly : {A : Type 0} → (A → A → Bool) → List A → Type 0
IsOrderly waits [] = Unit {0}
IsOrderly waits (own ∷ later) = AllByRecursion (λ other. waits own other ≡ false) later × IsPassed waits own later × IsOrderly waits later

-- Behind one, or at the front: this one does not wait for it.
abbrev pub is_clear : {A : Type 0} → (A → A → Bool) → Option A → A → Bool
is_clear waits None own = true
is_clear waits (Some before) own = not (waits own before)

-- the places of those that do not wait for the one before them, counted from a number on
abbrev pub clear : {A : Type 0} → (A → A → Bool) → Option A → ℕ → List A → List ℕ
clear waits before at [] = []
clear waits before at (own ∷ later) = let others = clear waits (Some own) (suc at) later in elim (is_clear waits before own) [ true ↦ at ∷ others | false ↦ others ]

-- A number draws this one of those that are left, and these are the others.
abbrev pub Draws : {A : Type 0} → (A → A → Bool) → List A → ℕ → A → List A → Type 0
Draws waits left word own others = slice_get (ready waits left) (word % length (ready waits left)) ≡ Some (record { own = own; others = others })
