-- Items of two tables that have the same names, and items before others.
use Rattle.std.proofs.Common.{◌≡◌, ℕ, suc, Bool, true, false, ◌||◌, List, [], ◌∷◌, ◌++◌, map, length, Option, Some, None, is_some, refl, sym, ◌∙◌, ap, append_assoc, append-nil}
use Rattle.std.specs.Option.{option_map}
use Rattle.std.specs.Str.{bytes_eq}
use Rattle.dsde_language.specs.given.names.Table.{place_of, named, is_among}
use Rattle.dsde_sound_expressions.specs.lemmas.Places.{next_place, place-cons, pick, named-cons, eq-same}

-- a list with more behind it
pub record Grows {A : Type 0} (items all : List A) : Type 0 where
  pub more : List A
  pub is : all ≡ items ++ more

module _ {A : Type 0} where
  pub grows-none : (items : List A) → Grows items items
  grows-none items = record { more = []; is = sym (append-nil items) }

  pub grows-more : (items more all : List A) → Grows (items ++ more) all → Grows items all
  grows-more items more all g = record { more = more ++ g.more; is = g.is ∙ append_assoc items more g.more }

module _ {T : Type 0} (name_of : T → List ℕ) where
  place-new-step : (b c : Bool) (found : Option ℕ) (size : ℕ) → (b || c) ≡ false → (c ≡ false → found ≡ Some size) → next_place b found ≡ Some (suc size)
  place-new-step true c found size h next = cc
  place-new-step false c found size h next = ap (option_map suc) (next h)

  -- A new item stands behind the others.
  pub place-new : (items : List T) (item : T) → is_among name_of items (name_of item) ≡ false → place_of name_of (items ++ item ∷ []) (name_of item) ≡ Some (length items)
  place-new [] item h = place-cons name_of item [] (name_of item) ∙ ap (λ (b : Bool). next_place b None) (eq-same (name_of item))
  place-new (first ∷ items) item h =
      place-cons name_of first (items ++ item ∷ []) (name_of item)
      ∙ place-new-step (bytes_eq (name_of first) (name_of item)) (is_among name_of items (name_of item)) (place_of name_of (items ++ item ∷ []) (name_of item)) (length items) h (place-new items item)

module _ {A B : Type 0} (name_of : A → List ℕ) (other_of : B → List ℕ) where
  some-step : (b : Bool) (one : A) (other : B) (found : Option A) (there : Option B) → is_some found ≡ is_some there → is_some (pick b one found) ≡ is_some (pick b other there)
  some-step true one other found there h = refl
  some-step false one other found there h = h

  -- Of two tables with the same names, both have an item of a name, or none has.
  pub some-alike : (items : List A) (others : List B) (name : List ℕ) → map name_of items ≡ map other_of others → is_some (named name_of items name) ≡ is_some (named other_of others name)
  some-alike [] [] name h = refl
  some-alike [] (other ∷ others) name h = cc
  some-alike (item ∷ items) [] name h = cc
  some-alike (item ∷ items) (other ∷ others) name h =
      let first : name_of item ≡ other_of other = cc h in
      let rest : map name_of items ≡ map other_of others = cc h in
      ap is_some (named-cons name_of item items name)
      ∙ some-step (bytes_eq (name_of item) name) item other (named name_of items name) (named other_of others name) (some-alike items others name rest)
      ∙ ap (λ (n : List ℕ). is_some (pick (bytes_eq n name) other (named other_of others name))) first
      ∙ sym (ap is_some (named-cons other_of other others name))
