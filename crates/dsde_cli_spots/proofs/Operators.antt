-- Faults of operators and builtins stand at their places.
use Rattle.std.proofs.Common.{ℕ, true, false, List, [], ◌∷◌, ◌++◌, length, Option, Some, None, Ok, Err}
use Rattle.std.specs.Prelude.{◌<◌, ℤ, pos, negsuc, int_lt, int_le, int_div, int_rem, ◌+ℤ◌, ◌-ℤ◌, ◌*ℤ◌, nat_le, nat_lt, not, if◌then◌else◌, slice_get, slice_set, take, drop, is_some}
use Rattle.dsde_values.specs.declared.value.Value.{Value, Value-F, out-Value}
use Rattle.dsde_values.specs.declared.value.Value.TheOpen as layer
use Rattle.dsde_values.specs.declared.value.Value.TheVariants as value
use Rattle.dsde_values.specs.Value.{fits_int}
use Rattle.dsde_language.specs.declared.operator.Binary.{Binary}
use Rattle.dsde_language.specs.declared.operator.Binary.TheVariants as binary
use Rattle.dsde_language.specs.declared.operator.Builtin.{Builtin}
use Rattle.dsde_language.specs.declared.operator.Builtin.TheVariants as builtin
use Rattle.dsde_faults.specs.declared.kind.FaultKind.TheVariants.{Overflow, DivideByZero, IndexOutOfRange, EmptyOption, RangeTooLong}
use Rattle.dsde_language.specs.Outcome.{Halt, Fault, Stuck, Outcome, ◌>>=◌, present, int_of, truth_of, items_of, option_of}
use Rattle.dsde_language.specs.MeaningOperators.{whole, listed, is_zero, divided, remaining, of_ints, truth, nearest, joined, operated, combined, denied, negated, or_else, unwrapped, item_at, indexed, ranged, count_of, numbers_from, replaced, of_one, of_two, of_three}
use Rattle.dsde_cli_spots.specs.Placed.{Ends}
use Rattle.dsde_cli_spots.proofs.Ending.{IsBelow, ends-then, ends-if}

module _ (n : ℕ) where
  abbrev B : Halt → Type 0
  B = IsBelow n

  pub present-near : {A : Type 0} (found : Option A) → Ends B (present found)
  present-near None = tt
  present-near (Some own) = tt

  -- what a value holds
  int-layer : (own : Value-F Value) → Ends B (elim own [ layer.Int number ↦ Ok number | _ ↦ Err Stuck ])
  int-layer (layer.Int number) = tt
  int-layer (layer.Bool truth) = tt
  int-layer (layer.Enum number variant) = tt
  int-layer (layer.Rec number parts) = tt
  int-layer (layer.List items) = tt
  int-layer layer.Nothing = tt
  int-layer (layer.Some inner) = tt

  pub int-near : (own : Value) → Ends B (int_of own)
  int-near own = int-layer (out-Value own)

  truth-layer : (own : Value-F Value) → Ends B (elim own [ layer.Bool truth ↦ Ok truth | _ ↦ Err Stuck ])
  truth-layer (layer.Int number) = tt
  truth-layer (layer.Bool truth) = tt
  truth-layer (layer.Enum number variant) = tt
  truth-layer (layer.Rec number parts) = tt
  truth-layer (layer.List items) = tt
  truth-layer layer.Nothing = tt
  truth-layer (layer.Some inner) = tt

  pub truth-near : (own : Value) → Ends B (truth_of own)
  truth-near own = truth-layer (out-Value own)

  items-layer : (own : Value-F Value) → Ends B (elim own [ layer.List items ↦ Ok items | _ ↦ Err Stuck ])
  items-layer (layer.Int number) = tt
  items-layer (layer.Bool truth) = tt
  items-layer (layer.Enum number variant) = tt
  items-layer (layer.Rec number parts) = tt
  items-layer (layer.List items) = tt
  items-layer layer.Nothing = tt
  items-layer (layer.Some inner) = tt

  pub items-near : (own : Value) → Ends B (items_of own)
  items-near own = items-layer (out-Value own)

  option-layer : (own : Value-F Value) → Ends B (elim own [ layer.Nothing ↦ Ok None | layer.Some inner ↦ Ok (Some inner) | _ ↦ Err Stuck ])
  option-layer (layer.Int number) = tt
  option-layer (layer.Bool truth) = tt
  option-layer (layer.Enum number variant) = tt
  option-layer (layer.Rec number parts) = tt
  option-layer (layer.List items) = tt
  option-layer layer.Nothing = tt
  option-layer (layer.Some inner) = tt

  pub option-near : (own : Value) → Ends B (option_of own)
  option-near own = option-layer (out-Value own)

  -- whole numbers and lists that are made
  whole-near : (at : ℕ) → at < n → (number : ℤ) → Ends B (whole at number)
  whole-near at less number = ends-if B (fits_int number) (Ok (value.Int number)) (Err (Fault Overflow at)) tt less

  pub listed-near : (at : ℕ) → at < n → (items : List Value) → Ends B (listed at items)
  listed-near at less items = ends-if B (nat_le (length items) 65536) (Ok (value.List items)) (Err (Fault RangeTooLong at)) tt less

  divided-near : (at : ℕ) → at < n → (number other : ℤ) → Ends B (divided at number other)
  divided-near at less number other = ends-if B (is_zero other) (Err (Fault DivideByZero at)) (whole at (int_div number other)) less (whole-near at less (int_div number other))

  remaining-near : (at : ℕ) → at < n → (number other : ℤ) → Ends B (remaining at number other)
  remaining-near at less number other = ends-then B (divided at number other) (λ quotient. Ok (value.Int (int_rem number other))) (divided-near at less number other) (λ quotient. tt)

  ints-near : (left right : Value) (next : ℤ → ℤ → Outcome Value) → ((number other : ℤ) → Ends B (next number other)) → Ends B (of_ints left right next)
  ints-near left right next own =
      ends-then B (int_of left) (λ number. int_of right >>= (λ other. next number other)) (int-near left) (λ number.
      ends-then B (int_of right) (λ other. next number other) (int-near right) (λ other. own number other))

  joined-near : (at : ℕ) → at < n → (left right : Value) → Ends B (joined at left right)
  joined-near at less left right =
      ends-then B (items_of left) (λ items. items_of right >>= (λ others. listed at (items ++ others))) (items-near left) (λ items.
      ends-then B (items_of right) (λ others. listed at (items ++ others)) (items-near right) (λ others. listed-near at less (items ++ others)))

  operated-near : (which : Binary) (at : ℕ) → at < n → (left right : Value) → Ends B (operated which at left right)
  operated-near binary.Or at less left right = tt
  operated-near binary.And at less left right = tt
  operated-near binary.Equal at less left right = tt
  operated-near binary.NotEqual at less left right = tt
  operated-near binary.Less at less left right = ints-near left right (λ number other. truth (int_lt number other)) (λ number other. tt)
  operated-near binary.LessEqual at less left right = ints-near left right (λ number other. truth (int_le number other)) (λ number other. tt)
  operated-near binary.Greater at less left right = ints-near left right (λ number other. truth (int_lt other number)) (λ number other. tt)
  operated-near binary.GreaterEqual at less left right = ints-near left right (λ number other. truth (int_le other number)) (λ number other. tt)
  operated-near binary.Add at less left right = ints-near left right (λ number other. whole at (number +ℤ other)) (λ number other. whole-near at less (number +ℤ other))
  operated-near binary.Sub at less left right = ints-near left right (λ number other. whole at (number -ℤ other)) (λ number other. whole-near at less (number -ℤ other))
  operated-near binary.Mul at less left right = ints-near left right (λ number other. whole at (number *ℤ other)) (λ number other. whole-near at less (number *ℤ other))
  operated-near binary.Div at less left right = ints-near left right (divided at) (λ number other. divided-near at less number other)
  operated-near binary.Rem at less left right = ints-near left right (remaining at) (λ number other. remaining-near at less number other)
  operated-near binary.CapAdd at less left right = ints-near left right (λ number other. Ok (value.Int (nearest (number +ℤ other)))) (λ number other. tt)
  operated-near binary.CapSub at less left right = ints-near left right (λ number other. Ok (value.Int (nearest (number -ℤ other)))) (λ number other. tt)
  operated-near binary.CapMul at less left right = ints-near left right (λ number other. Ok (value.Int (nearest (number *ℤ other)))) (λ number other. tt)
  operated-near binary.Join at less left right = joined-near at less left right

  pub combined-near : (which : Binary) (at : ℕ) → at < n → (left : Value) (right : Outcome Value) → Ends B right → Ends B (combined which at left right)
  combined-near binary.Or at less left right own =
      ends-then {B = Value} B (truth_of left) (λ holds. if holds then truth true else right) (truth-near left) (λ holds. ends-if B holds (truth true) right tt own)
  combined-near binary.And at less left right own =
      ends-then {B = Value} B (truth_of left) (λ holds. if holds then right else truth false) (truth-near left) (λ holds. ends-if B holds right (truth false) own tt)
  combined-near binary.Equal at less left right own = ends-then B right (operated binary.Equal at left) own (λ other. operated-near binary.Equal at less left other)
  combined-near binary.NotEqual at less left right own = ends-then B right (operated binary.NotEqual at left) own (λ other. operated-near binary.NotEqual at less left other)
  combined-near binary.Less at less left right own = ends-then B right (operated binary.Less at left) own (λ other. operated-near binary.Less at less left other)
  combined-near binary.LessEqual at less left right own = ends-then B right (operated binary.LessEqual at left) own (λ other. operated-near binary.LessEqual at less left other)
  combined-near binary.Greater at less left right own = ends-then B right (operated binary.Greater at left) own (λ other. operated-near binary.Greater at less left other)
  combined-near binary.GreaterEqual at less left right own = ends-then B right (operated binary.GreaterEqual at left) own (λ other. operated-near binary.GreaterEqual at less left other)
  combined-near binary.Add at less left right own = ends-then B right (operated binary.Add at left) own (λ other. operated-near binary.Add at less left other)
  combined-near binary.Sub at less left right own = ends-then B right (operated binary.Sub at left) own (λ other. operated-near binary.Sub at less left other)
  combined-near binary.Mul at less left right own = ends-then B right (operated binary.Mul at left) own (λ other. operated-near binary.Mul at less left other)
  combined-near binary.Div at less left right own = ends-then B right (operated binary.Div at left) own (λ other. operated-near binary.Div at less left other)
  combined-near binary.Rem at less left right own = ends-then B right (operated binary.Rem at left) own (λ other. operated-near binary.Rem at less left other)
  combined-near binary.CapAdd at less left right own = ends-then B right (operated binary.CapAdd at left) own (λ other. operated-near binary.CapAdd at less left other)
  combined-near binary.CapSub at less left right own = ends-then B right (operated binary.CapSub at left) own (λ other. operated-near binary.CapSub at less left other)
  combined-near binary.CapMul at less left right own = ends-then B right (operated binary.CapMul at left) own (λ other. operated-near binary.CapMul at less left other)
  combined-near binary.Join at less left right own = ends-then B right (operated binary.Join at left) own (λ other. operated-near binary.Join at less left other)

  pub denied-near : (own : Value) → Ends B (denied own)
  denied-near own = ends-then B (truth_of own) (λ holds. truth (not holds)) (truth-near own) (λ holds. tt)

  pub negated-near : (at : ℕ) → at < n → (own : Value) → Ends B (negated at own)
  negated-near at less own = ends-then B (int_of own) (λ number. whole at (pos 0 -ℤ number)) (int-near own) (λ number. whole-near at less (pos 0 -ℤ number))

  else-near : (held : Option Value) (right : Outcome Value) → Ends B right → Ends B (elim held [ None ↦ right | Some inner ↦ Ok inner ])
  else-near None right own = own
  else-near (Some inner) right own = tt

  pub or-else-near : (own : Value) (right : Outcome Value) → Ends B right → Ends B (or_else own right)
  or-else-near own right near = ends-then B (option_of own) (λ held. elim held [ None ↦ right | Some inner ↦ Ok inner ]) (option-near own) (λ held. else-near held right near)

  held-near : (at : ℕ) → at < n → (held : Option Value) → Ends B (elim held [ None ↦ Err (Fault EmptyOption at) | Some inner ↦ Ok inner ])
  held-near at less None = less
  held-near at less (Some inner) = tt

  pub unwrapped-near : (at : ℕ) → at < n → (own : Value) → Ends B (unwrapped at own)
  unwrapped-near at less own = ends-then B (option_of own) (λ held. elim held [ None ↦ Err (Fault EmptyOption at) | Some inner ↦ Ok inner ]) (option-near own) (λ held. held-near at less held)

  found-near : (at : ℕ) → at < n → (found : Option Value) → Ends B (elim found [ None ↦ Err (Fault IndexOutOfRange at) | Some item ↦ Ok item ])
  found-near at less None = less
  found-near at less (Some item) = tt

  item-near : (at : ℕ) → at < n → (items : List Value) (number : ℤ) → Ends B (item_at at items number)
  item-near at less items (pos number) = found-near at less (slice_get items number)
  item-near at less items (negsuc number) = less

  pub indexed-near : (at : ℕ) → at < n → (list index : Value) → Ends B (indexed at list index)
  indexed-near at less list index =
      ends-then B (items_of list) (λ items. int_of index >>= (λ number. item_at at items number)) (items-near list) (λ items.
      ends-then B (int_of index) (λ number. item_at at items number) (int-near index) (λ number. item-near at less items number))

  ranged-near : (at : ℕ) → at < n → (first end : ℤ) → Ends B (ranged at first end)
  ranged-near at less first end =
      ends-if B (nat_le (count_of (end -ℤ first)) 65536) (Ok (value.List (numbers_from first (count_of (end -ℤ first))))) (Err (Fault RangeTooLong at)) tt less

  replaced-near : (at : ℕ) → at < n → (items : List Value) (number : ℤ) (item : Value) → Ends B (replaced at items number item)
  replaced-near at less items (pos number) item =
      ends-if B (nat_lt number (length items)) (Ok (value.List (slice_set items number item))) (Err (Fault IndexOutOfRange at)) tt less
  replaced-near at less items (negsuc number) item = less

  -- builtins
  pub one-near : (which : Builtin) (own : Value) → Ends B (of_one which own)
  one-near builtin.Len own = ends-then B (items_of own) (λ items. Ok (value.Int (pos (length items)))) (items-near own) (λ items. tt)
  one-near builtin.IsSome own = ends-then B (option_of own) (λ held. truth (is_some held)) (option-near own) (λ held. tt)
  one-near builtin.Range own = tt
  one-near builtin.Min own = tt
  one-near builtin.Max own = tt
  one-near builtin.Push own = tt
  one-near builtin.Put own = tt
  one-near builtin.Take own = tt
  one-near builtin.Skip own = tt

  pub two-near : (which : Builtin) (at : ℕ) → at < n → (one two : Value) → Ends B (of_two which at one two)
  two-near builtin.Range at less one two = ints-near one two (ranged at) (λ number other. ranged-near at less number other)
  two-near builtin.Min at less one two = ints-near one two (λ number other. Ok (value.Int (if int_le number other then number else other))) (λ number other. tt)
  two-near builtin.Max at less one two = ints-near one two (λ number other. Ok (value.Int (if int_le number other then other else number))) (λ number other. tt)
  two-near builtin.Push at less one two = ends-then B (items_of one) (λ items. listed at (items ++ two ∷ [])) (items-near one) (λ items. listed-near at less (items ++ two ∷ []))
  two-near builtin.Take at less one two =
      ends-then B (items_of one) (λ items. int_of two >>= (λ number. Ok (value.List (take (count_of number) items)))) (items-near one) (λ items.
      ends-then B (int_of two) (λ number. Ok (value.List (take (count_of number) items))) (int-near two) (λ number. tt))
  two-near builtin.Skip at less one two =
      ends-then B (items_of one) (λ items. int_of two >>= (λ number. Ok (value.List (drop (count_of number) items)))) (items-near one) (λ items.
      ends-then B (int_of two) (λ number. Ok (value.List (drop (count_of number) items))) (int-near two) (λ number. tt))
  two-near builtin.Len at less one two = tt
  two-near builtin.IsSome at less one two = tt
  two-near builtin.Put at less one two = tt

  pub three-near : (which : Builtin) (at : ℕ) → at < n → (one two three : Value) → Ends B (of_three which at one two three)
  three-near builtin.Put at less one two three =
      ends-then B (items_of one) (λ items. int_of two >>= (λ number. replaced at items number three)) (items-near one) (λ items.
      ends-then B (int_of two) (λ number. replaced at items number three) (int-near two) (λ number. replaced-near at less items number three))
  three-near builtin.Len at less one two three = tt
  three-near builtin.IsSome at less one two three = tt
  three-near builtin.Range at less one two three = tt
  three-near builtin.Min at less one two three = tt
  three-near builtin.Max at less one two three = tt
  three-near builtin.Push at less one two three = tt
  three-near builtin.Take at less one two three = tt
  three-near builtin.Skip at less one two three = tt
