-- Items of lists, found by a test or by their names: at the front of a list, and behind others.
use Rattle.std.proofs.Common.{◌≡◌, ℕ, zero, suc, ◌+◌, Bool, true, false, cond, not, ◌||◌, if◌then◌else◌, List, [], ◌∷◌, ◌++◌, map, length, Option, Some, None, option_map, position, slice_get, nat_lt, bytes_eq, refl, sym, ap, subst, ◌∙◌, inl, inr, arith, lt-ltb, le-ltb}
use Rattle.std.proofs.lemmas.Bool.{both_ways, cases_Bool, cases_lt}
use Rattle.std.proofs.lemmas.List.Folds.{list_any-append}
use Rattle.std.proofs.lemmas.Slice.Eq.{bytes_eq-Decides}
use Rattle.std.specs.List.{list_any, position_or_len}
use Rattle.dsde_language.specs.given.names.Table.{place_of, named, is_among}
use Rattle.dsde_language.specs.RuleTables.{added}
use Rattle.dsde_sound_expressions.specs.lemmas.Truths.{or-left}

-- names that are the same, and names that differ
pub same-name : (one other : List ℕ) → bytes_eq one other ≡ true → one ≡ other
same-name one other h = (bytes_eq-Decides one other).0 h

pub eq-same : (name : List ℕ) → bytes_eq name name ≡ true
eq-same name = (bytes_eq-Decides name name).1 refl

pub other-name : (one other : List ℕ) → (one ≡ other → ⊥) → bytes_eq one other ≡ false
other-name one other differ = elim (cases_Bool (bytes_eq one other)) [
  | inl same ↦ absurd (differ (same-name one other same))
  | inr here ↦ here
]

pub other-way : (one other : List ℕ) → bytes_eq one other ≡ false → bytes_eq other one ≡ false
other-way one other differ = other-name other one (λ same. both_ways _ differ ((bytes_eq-Decides one other).1 (sym same)))

-- the place of what stands at the front or behind it
abbrev pub next_place : Bool → Option ℕ → Option ℕ
next_place here place = cond here (Some 0) (option_map suc place)

place-step : (b : Bool) (n m : ℕ) → cond (nat_lt (cond (not b) (1 + n) 0) (suc m)) (Some (cond (not b) (1 + n) 0)) None ≡ next_place b (cond (nat_lt n m) (Some n) None)
place-step true n m = ap (λ (b : Bool). cond b (Some 0) None) (lt-ltb 0 (suc m) (omega arith))
place-step false n m = elim (cases_lt n m) [
  | inl low ↦
      ap (λ (b : Bool). cond b (Some (1 + n)) None) (lt-ltb (1 + n) (suc m) (omega (arith, low)))
      ∙ ap (λ (k : ℕ). Some k) (omega arith)
      ∙ sym (ap (λ (b : Bool). option_map suc (cond b (Some n) None)) (lt-ltb n m low))
  | inr high ↦
      ap (λ (b : Bool). cond b (Some (1 + n)) None) (le-ltb (1 + n) (suc m) (omega (arith, high)))
      ∙ sym (ap (λ (b : Bool). option_map suc (cond b (Some n) None)) (le-ltb n m high))
]

module _ {X : Type 0} (p : X → Bool) where
  position-cons : (x : X) (xs : List X) → position p (x ∷ xs) ≡ next_place (p x) (position p xs)
  position-cons x xs = place-step (p x) (position_or_len p xs) (length xs)

  -- the first that passes, where there is one, is the first of a longer list
  found-step : (b : Bool) (one other : Option ℕ) (number : ℕ) → ((own : ℕ) → one ≡ Some own → other ≡ Some own)
      → next_place b one ≡ Some number → next_place b other ≡ Some number
  found-step true one other number same is = is
  found-step false None other number same is = cc
  found-step false (Some own) other number same is = ap (option_map suc) (same own refl) ∙ is

  pub position-longer : (xs ys : List X) (number : ℕ) → position p xs ≡ Some number → position p (xs ++ ys) ≡ Some number
  position-longer [] ys number is = cc
  position-longer (x ∷ xs) ys number is =
      position-cons x (xs ++ ys)
      ∙ found-step (p x) (position p xs) (position p (xs ++ ys)) number (λ own here. position-longer xs ys own here) (sym (position-cons x xs) ∙ is)

  -- the first that passes stands at its number, and passes
  pub record Passes (xs : List X) (number : ℕ) : Type 0 where
    pub own : X
    pub at : slice_get xs number ≡ Some own
    pub passes : p own ≡ true

  at-step : (b : Bool) (x : X) (xs : List X) (one : Option ℕ) (number : ℕ) → p x ≡ b → ((own : ℕ) → one ≡ Some own → Passes xs own)
      → next_place b one ≡ Some number → Passes (x ∷ xs) number
  at-step true x xs one zero is rest found = record { own = x; at = refl; passes = is }
  at-step true x xs one (suc number) is rest found = absurd (let h : 0 ≡ suc number = cc in omega (arith, h))
  at-step false x xs None number is rest found = cc
  at-step false x xs (Some own) number is rest found =
      let here = rest own refl in
      let same : suc own ≡ number = cc in
      subst (λ (n : ℕ). Passes (x ∷ xs) n) same (record { own = here.own; at = here.at; passes = here.passes })

  pub position-at : (xs : List X) (number : ℕ) → position p xs ≡ Some number → Passes xs number
  position-at [] number found = cc
  position-at (x ∷ xs) number found = at-step (p x) x xs (position p xs) number refl (position-at xs) (sym (position-cons x xs) ∙ found)

  pub any-left : (xs ys : List X) → list_any p (xs ++ ys) ≡ false → list_any p xs ≡ false
  any-left xs ys none = or-left (list_any p xs) (list_any p ys) (sym (list_any-append p xs ys) ∙ none)

-- of what is made of items
pub any-map : {X Y : Type 0} (p : Y → Bool) (f : X → Y) (xs : List X) → list_any p (map f xs) ≡ list_any (λ x. p (f x)) xs
any-map p f [] = refl
any-map p f (x ∷ xs) = ap (λ (c : Bool). p (f x) || c) (any-map p f xs)

pub position-map : {X Y : Type 0} (p : Y → Bool) (f : X → Y) (xs : List X) → position p (map f xs) ≡ position (λ x. p (f x)) xs
position-map p f [] = refl
position-map p f (x ∷ xs) =
    position-cons p (f x) (map f xs)
    ∙ ap (next_place (p (f x))) (position-map p f xs)
    ∙ sym (position-cons (λ x. p (f x)) x xs)

pub get-left : {X : Type 0} (xs ys : List X) (number : ℕ) (own : X) → slice_get xs number ≡ Some own → slice_get (xs ++ ys) number ≡ Some own
get-left [] ys number own at = cc
get-left (x ∷ xs) ys zero own at = at
get-left (x ∷ xs) ys (suc number) own at = get-left xs ys number own at

-- the front where it has the name, and else what was found behind it
abbrev pub pick : {T : Type 0} → Bool → T → Option T → Option T
pick here item found = cond here (Some item) found

-- what was found, and else the last
abbrev pub or_last : {T : Type 0} → Option T → Option T → Option T
or_last None last = last
or_last (Some item) last = Some item

module _ {T : Type 0} (name_of : T → List ℕ) where
  abbrev at_place : List T → Option ℕ → Option T
  at_place items place = elim place [ None ↦ None | Some own ↦ slice_get items own ]

  -- an item with a name that none of a list has
  pub added-new : (items : List T) (item : T) → is_among name_of items (name_of item) ≡ false → added name_of items item ≡ items ++ item ∷ []
  added-new items item none = ap (λ (b : Bool). if b then items else items ++ item ∷ []) none

  pub among-snoc : (items : List T) (item : T) (name : List ℕ) → is_among name_of (items ++ item ∷ []) name ≡ (is_among name_of items name || (bytes_eq (name_of item) name || false))
  among-snoc items item name = list_any-append (λ own. bytes_eq (name_of own) name) items (item ∷ [])

  -- the item of a name, and its place
  pub record Placed (items : List T) (name : List ℕ) (own : T) : Type 0 where
    pub place : ℕ
    pub found : place_of name_of items name ≡ Some place
    pub at : slice_get items place ≡ Some own

  placed-step : (items : List T) (name : List ℕ) (own : T) (place : Option ℕ) → place_of name_of items name ≡ place → at_place items place ≡ Some own → Placed items name own
  placed-step items name own None is h = cc
  placed-step items name own (Some place) is h = record { place = place; found = is; at = h }

  pub placed : (items : List T) (name : List ℕ) (own : T) → named name_of items name ≡ Some own → Placed items name own
  placed items name own h = placed-step items name own (place_of name_of items name) refl h

  pub named-at : (items : List T) (name : List ℕ) (place : ℕ) → place_of name_of items name ≡ Some place → named name_of items name ≡ slice_get items place
  named-at items name place found = ap (at_place items) found

  pub place-cons : (item : T) (items : List T) (name : List ℕ) → place_of name_of (item ∷ items) name ≡ next_place (bytes_eq (name_of item) name) (place_of name_of items name)
  place-cons item items name = position-cons (λ own. bytes_eq (name_of own) name) item items

  named-step : (b : Bool) (place : Option ℕ) (item : T) (items : List T) → at_place (item ∷ items) (next_place b place) ≡ pick b item (at_place items place)
  named-step true place item items = refl
  named-step false None item items = refl
  named-step false (Some own) item items = refl

  pub named-cons : (item : T) (items : List T) (name : List ℕ) → named name_of (item ∷ items) name ≡ pick (bytes_eq (name_of item) name) item (named name_of items name)
  named-cons item items name =
      ap (at_place (item ∷ items)) (place-cons item items name)
      ∙ named-step (bytes_eq (name_of item) name) (place_of name_of items name) item items

  pick-last : (b : Bool) (item : T) (found last : Option T) → pick b item (or_last found last) ≡ or_last (pick b item found) last
  pick-last true item found last = refl
  pick-last false item found last = refl

  -- what is found where one item stands behind others
  pub named-snoc : (items : List T) (item : T) (name : List ℕ) → named name_of (items ++ item ∷ []) name ≡ or_last (named name_of items name) (pick (bytes_eq (name_of item) name) item None)
  named-snoc [] item name = named-cons item [] name
  named-snoc (first ∷ items) item name =
      named-cons first (items ++ item ∷ []) name
      ∙ ap (pick (bytes_eq (name_of first) name) first) (named-snoc items item name)
      ∙ pick-last (bytes_eq (name_of first) name) first (named name_of items name) (pick (bytes_eq (name_of item) name) item None)
      ∙ ap (λ (found : Option T). or_last found (pick (bytes_eq (name_of item) name) item None)) (sym (named-cons first items name))

  -- what is found is found where there is more behind it
  front-step : (b : Bool) (item own : T) (found all : Option T) → (found ≡ Some own → all ≡ Some own) → pick b item found ≡ Some own → pick b item all ≡ Some own
  front-step true item own found all next h = h
  front-step false item own found all next h = next h

  pub named-front : (items more : List T) (name : List ℕ) (own : T) → named name_of items name ≡ Some own → named name_of (items ++ more) name ≡ Some own
  named-front [] more name own h = cc
  named-front (item ∷ items) more name own h =
      named-cons item (items ++ more) name
      ∙ front-step (bytes_eq (name_of item) name) item own (named name_of items name) (named name_of (items ++ more) name) (named-front items more name own)
      (sym (named-cons item items name) ∙ h)

  unnamed-step : (b more : Bool) (item : T) (found : Option T) → (b || more) ≡ false → (more ≡ false → found ≡ None) → pick b item found ≡ None
  unnamed-step true more item found h next = cc
  unnamed-step false more item found h next = next h

  -- nothing is found by a name that none has
  pub unnamed : (items : List T) (name : List ℕ) → is_among name_of items name ≡ false → named name_of items name ≡ None
  unnamed [] name h = refl
  unnamed (item ∷ items) name h =
      named-cons item items name
      ∙ unnamed-step (bytes_eq (name_of item) name) (is_among name_of items name) item (named name_of items name) h (unnamed items name)

  name-step : (b : Bool) (item own : T) (found : Option T) (name : List ℕ) → (b ≡ true → name_of item ≡ name) → (found ≡ Some own → name_of own ≡ name) → pick b item found ≡ Some own → name_of own ≡ name
  name-step true item own found name here next h = let same : item ≡ own = cc h in ap name_of (sym same) ∙ here refl
  name-step false item own found name here next h = next h

  -- what is found has the name
  pub named-is : (items : List T) (own : T) (name : List ℕ) → named name_of items name ≡ Some own → name_of own ≡ name
  named-is [] own name h = cc
  named-is (item ∷ items) own name h =
      name-step (bytes_eq (name_of item) name) item own (named name_of items name) name (same-name (name_of item) name) (named-is items own name)
      (sym (named-cons item items name) ∙ h)

module _ {A B : Type 0} (f : A → B) (name_of : B → List ℕ) where
  pick-map : (b : Bool) (item : A) (found : Option A) → pick b (f item) (option_map f found) ≡ option_map f (pick b item found)
  pick-map true item found = refl
  pick-map false item found = refl

  -- what is found among what is made of items
  pub named-map : (items : List A) (name : List ℕ) → named name_of (map f items) name ≡ option_map f (named (λ item. name_of (f item)) items name)
  named-map [] name = refl
  named-map (item ∷ items) name =
      named-cons name_of (f item) (map f items) name
      ∙ ap (pick (bytes_eq (name_of (f item)) name) (f item)) (named-map items name)
      ∙ pick-map (bytes_eq (name_of (f item)) name) item (named (λ item. name_of (f item)) items name)
      ∙ ap (option_map f) (sym (named-cons (λ item. name_of (f item)) item items name))
