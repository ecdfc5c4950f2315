-- What operators and builtins make of values.
use Rattle.std.specs.Prelude.{ℕ, zero, suc, ◌-◌, ◌^◌, ◌==◌, min, nat_lt, nat_le, ℤ, pos, negsuc, ◌+ℤ◌, ◌-ℤ◌, ◌*ℤ◌, int_lt, int_le, int_div, int_rem, Bool, true, false, ◌&&◌, not, if◌then◌else◌, List, [], ◌∷◌, ◌++◌, length, take, drop, Some, None, is_some, Ok, Err, slice_get, slice_set}
use Rattle.dsde_values.specs.declared.value.Value.{Value, Value-F, fold-Value, out-Value}
use Rattle.dsde_values.specs.declared.value.Value.TheOpen as layer
use Rattle.dsde_values.specs.declared.value.Value.TheVariants as value
use Rattle.dsde_values.specs.Value.{fits_int}
use Rattle.dsde_faults.specs.declared.kind.FaultKind.TheVariants.{Overflow, DivideByZero, IndexOutOfRange, EmptyOption, RangeTooLong}
use Rattle.dsde_language.specs.declared.operator.Binary.{Binary}
use Rattle.dsde_language.specs.declared.operator.Binary.TheVariants as binary
use Rattle.dsde_language.specs.declared.operator.Builtin.{Builtin}
use Rattle.dsde_language.specs.declared.operator.Builtin.TheVariants as builtin
use Rattle.dsde_language.specs.Outcome.{Outcome, Fault, Stuck, ◌>>=◌, int_of, truth_of, items_of, option_of}

-- Parts are equal, one each in their order, by what each answers of another value.
abbrev pub same_parts : List (Value → Bool) → List Value → Bool
same_parts [] [] = true
same_parts (part ∷ parts) (other ∷ others) = part other && same_parts parts others
same_parts _ _ = false

abbrev pub same_truth : Bool → Bool → Bool
same_truth true other = other
same_truth false other = not other

-- One value, with what each part answers of another value in its place, is equal to a value.
abbrev pub same_step : Value-F (Value → Bool) → Value-F Value → Bool
same_step (layer.Int number) (layer.Int other) = int_le number other && int_le other number
same_step (layer.Bool truth) (layer.Bool other) = same_truth truth other
same_step (layer.Enum number variant) (layer.Enum own other) = number == own && variant == other
same_step (layer.Rec number parts) (layer.Rec own others) = number == own && same_parts parts others
same_step (layer.List parts) (layer.List others) = same_parts parts others
same_step layer.Nothing layer.Nothing = true
same_step (layer.Some part) (layer.Some other) = part other
same_step _ _ = false

-- whether two values are equal
unfoldable pub same_value : Value → Value → Bool
same_value = fold-Value (Value → Bool) (λ parts other. same_step parts (out-Value other))

-- a whole number, where it has 64 signed bits
abbrev pub whole : ℕ → ℤ → Outcome Value
whole at number = if fits_int number then Ok (value.Int number) else Err (Fault Overflow at)

-- a whole number, cut to the nearest end of 64 signed bits
abbrev pub nearest : ℤ → ℤ
nearest (pos number) = pos (min number (2 ^ 63 - 1))
nearest (negsuc number) = negsuc (min number (2 ^ 63 - 1))

-- a list of at most 65,536 items
abbrev pub listed : ℕ → List Value → Outcome Value
listed at items = if nat_le (length items) 65536 then Ok (value.List items) else Err (Fault RangeTooLong at)

abbrev pub is_zero : ℤ → Bool
is_zero (pos number) = number == 0
is_zero (negsuc number) = false

-- The quotient is cut towards 0, and the remainder has the sign of the dividend. Neither is there
-- where the quotient does not have 64 signed bits.
abbrev pub divided : ℕ → ℤ → ℤ → Outcome Value
divided at number other = if is_zero other then Err (Fault DivideByZero at) else whole at (int_div number other)

abbrev pub remaining : ℕ → ℤ → ℤ → Outcome Value
remaining at number other = divided at number other >>= (λ quotient. Ok (value.Int (int_rem number other)))

-- what is made of two whole numbers
abbrev pub of_ints : Value → Value → (ℤ → ℤ → Outcome Value) → Outcome Value
of_ints left right next = int_of left >>= (λ number. int_of right >>= (λ other. next number other))

abbrev pub truth : Bool → Outcome Value
truth own = Ok (value.Bool own)

abbrev pub joined : ℕ → Value → Value → Outcome Value
joined at left right = items_of left >>= (λ items. items_of right >>= (λ others. listed at (items ++ others)))

-- an operator of two values, but "or" and "and", which have a step of their own
abbrev pub operated : Binary → ℕ → Value → Value → Outcome Value
operated binary.Or at left right = Err Stuck
operated binary.And at left right = Err Stuck
operated binary.Equal at left right = truth (same_value left right)
operated binary.NotEqual at left right = truth (not (same_value left right))
operated binary.Less at left right = of_ints left right (λ number other. truth (int_lt number other))
operated binary.LessEqual at left right = of_ints left right (λ number other. truth (int_le number other))
operated binary.Greater at left right = of_ints left right (λ number other. truth (int_lt other number))
operated binary.GreaterEqual at left right = of_ints left right (λ number other. truth (int_le other number))
operated binary.Add at left right = of_ints left right (λ number other. whole at (number +ℤ other))
operated binary.Sub at left right = of_ints left right (λ number other. whole at (number -ℤ other))
operated binary.Mul at left right = of_ints left right (λ number other. whole at (number *ℤ other))
operated binary.Div at left right = of_ints left right (divided at)
operated binary.Rem at left right = of_ints left right (remaining at)
operated binary.CapAdd at left right = of_ints left right (λ number other. Ok (value.Int (nearest (number +ℤ other))))
operated binary.CapSub at left right = of_ints left right (λ number other. Ok (value.Int (nearest (number -ℤ other))))
operated binary.CapMul at left right = of_ints left right (λ number other. Ok (value.Int (nearest (number *ℤ other))))
operated binary.Join at left right = joined at left right

-- An operator of what stands to its left, and of what its right side comes to. "or" and "and" look
-- at the right side only where the left one does not decide.
abbrev pub combined : Binary → ℕ → Value → Outcome Value → Outcome Value
combined binary.Or at left right = truth_of left >>= (λ holds. if holds then truth true else right)
combined binary.And at left right = truth_of left >>= (λ holds. if holds then right else truth false)
combined which at left right = right >>= (λ other. operated which at left other)

-- "not", and the sign before a number
abbrev pub denied : Value → Outcome Value
denied own = truth_of own >>= (λ holds. truth (not holds))

abbrev pub negated : ℕ → Value → Outcome Value
negated at own = int_of own >>= (λ number. whole at (pos 0 -ℤ number))

-- `??` looks at its right side only where the option is empty.
abbrev pub or_else : Value → Outcome Value → Outcome Value
or_else own right = option_of own >>= (λ held. elim held [ None ↦ right | Some inner ↦ Ok inner ])

-- `!`
abbrev pub unwrapped : ℕ → Value → Outcome Value
unwrapped at own = option_of own >>= (λ held. elim held [ None ↦ Err (Fault EmptyOption at) | Some inner ↦ Ok inner ])

-- the item at an index, counted from 0
abbrev pub item_at : ℕ → List Value → ℤ → Outcome Value
item_at at items (pos number) = elim (slice_get items number) [ None ↦ Err (Fault IndexOutOfRange at) | Some item ↦ Ok item ]
item_at at items (negsuc number) = Err (Fault IndexOutOfRange at)

abbrev pub indexed : ℕ → Value → Value → Outcome Value
indexed at list index = items_of list >>= (λ items. int_of index >>= (λ number. item_at at items number))

-- a number of items, cut to 0
abbrev pub count_of : ℤ → ℕ
count_of (pos number) = number
count_of (negsuc number) = 0

-- so many whole numbers, from one on
abbrev pub numbers_from : ℤ → ℕ → List Value
numbers_from first zero = []
numbers_from first (suc count) = value.Int first ∷ numbers_from (first +ℤ pos 1) count

-- the whole numbers from one on, before another
abbrev pub ranged : ℕ → ℤ → ℤ → Outcome Value
ranged at first end =
    let count = count_of (end -ℤ first) in
    if nat_le count 65536 then Ok (value.List (numbers_from first count)) else Err (Fault RangeTooLong at)

-- a list with the item at an index replaced
abbrev pub replaced : ℕ → List Value → ℤ → Value → Outcome Value
replaced at items (pos number) item =
    if nat_lt number (length items) then Ok (value.List (slice_set items number item)) else Err (Fault IndexOutOfRange at)
replaced at items (negsuc number) item = Err (Fault IndexOutOfRange at)

-- builtins of one argument, of two and of three
abbrev pub of_one : Builtin → Value → Outcome Value
of_one builtin.Len own = items_of own >>= (λ items. Ok (value.Int (pos (length items))))
of_one builtin.IsSome own = option_of own >>= (λ held. truth (is_some held))
of_one _ own = Err Stuck

abbrev pub of_two : Builtin → ℕ → Value → Value → Outcome Value
of_two builtin.Range at one two = of_ints one two (ranged at)
of_two builtin.Min at one two = of_ints one two (λ number other. Ok (value.Int (if int_le number other then number else other)))
of_two builtin.Max at one two = of_ints one two (λ number other. Ok (value.Int (if int_le number other then other else number)))
of_two builtin.Push at one two = items_of one >>= (λ items. listed at (items ++ two ∷ []))
of_two builtin.Take at one two = items_of one >>= (λ items. int_of two >>= (λ number. Ok (value.List (take (count_of number) items))))
of_two builtin.Skip at one two = items_of one >>= (λ items. int_of two >>= (λ number. Ok (value.List (drop (count_of number) items))))
of_two _ at one two = Err Stuck

abbrev pub of_three : Builtin → ℕ → Value → Value → Value → Outcome Value
of_three builtin.Put at one two three = items_of one >>= (λ items. int_of two >>= (λ number. replaced at items number three))
of_three _ at one two three = Err Stuck
