-- Items found by their names.
use Rattle.std.specs.Prelude.{ℕ, Bool, List, Option, None, Some, position, slice_get}
use Rattle.std.specs.List.{list_any}
use Rattle.std.specs.Str.{bytes_eq}

module _ {T : Type 0} (name_of : T → List ℕ) where
  -- the number of the first item with a name
  abbrev pub place_of : List T → List ℕ → Option ℕ
  place_of items name = position (λ item. bytes_eq (name_of item) name) items

  -- the first item with a name
  abbrev pub named : List T → List ℕ → Option T
  named items name = elim (place_of items name) [ None ↦ None | Some place ↦ slice_get items place ]

  -- whether an item has a name
  abbrev pub is_among : List T → List ℕ → Bool
  is_among items name = list_any (λ item. bytes_eq (name_of item) name) items
