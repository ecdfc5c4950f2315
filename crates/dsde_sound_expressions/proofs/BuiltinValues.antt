-- What builtins make of values of their types.
use Rattle.std.proofs.Common.{◌≡◌, ℕ, ◌^◌, ◌≤◌, min, ℤ, pos, negsuc, ◌-ℤ◌, Bool, true, false, if◌then◌else◌, List, [], ◌∷◌, ◌++◌, length, take, drop, Ok, Err, refl, sym, subst, arith, nat_lt, nat_le, slice_set}
use Rattle.std.specs.Prelude.{int_le, is_some}
use Rattle.std.proofs.lemmas.List.{length-take, length-drop, length-set}
use borrow.Author.Tests.{leb-true, lt-ltb}
use Rattle.dsde_language.specs.given.values.types_Ty.{Ty}
use Rattle.dsde_language.specs.given.values.types_Ty_TheVariants as ty
use Rattle.dsde_language.specs.given.values.types_Types.{Types}
use Rattle.dsde_language.specs.given.values.value_Value.{Value}
use Rattle.dsde_language.specs.given.values.value_Value_TheVariants as value
use Rattle.dsde_language.specs.given.values.Value.{fits_int}
use Rattle.dsde_language.specs.given.faults.kind_FaultKind_TheVariants.{IndexOutOfRange, RangeTooLong}
use Rattle.dsde_language.specs.declared.operator.Builtin.TheVariants as builtin
use Rattle.dsde_language.specs.Outcome.{Fault, ◌>>=◌, int_of, items_of, option_of}
use Rattle.dsde_language.specs.MeaningOperators.{listed, truth, count_of, numbers_from, ranged, replaced, of_one, of_two, of_three}
use Rattle.dsde_language.specs.Typed.{Typed}
use Rattle.dsde_sound_expressions.specs.lemmas.Outcomes.{sound-then, sound-if}
use Rattle.dsde_sound_expressions.specs.lemmas.Values.{IsList, Held, typed-int, typed-bool, typed-list, int-sound, items-sound, option-sound, all-snoc}
use Rattle.dsde_sound_expressions.proofs.Numbers.{fits-if, range-fits, range-long, all-take, all-drop, all-set}
use Rattle.dsde_sound_expressions.proofs.Operators.{Fine, IsInt, listed-sound, ints-sound}

module _ (types : Types) (total : Bool) where
  len-fits : (n : ℕ) → n ≤ 65536 → fits_int (pos n) ≡ true
  len-fits n h = lt-ltb n (2 ^ 63) (omega (arith, h))

  pub len-sound : (t : Ty) (v : Value) → Typed types (ty.List t) v → Fine types total ty.Int (of_one builtin.Len v)
  len-sound t v p =
      sound-then total (IsList types t) (Typed types ty.Int) (items_of v) (λ items. Ok (value.Int (pos (length items)))) (items-sound types total v t p) (λ items h.
      typed-int types (pos (length items)) (len-fits (length items) h.short))

  pub is-some-sound : (t : Ty) (v : Value) → Typed types (ty.Opt t) v → Fine types total ty.Bool (of_one builtin.IsSome v)
  is-some-sound t v p =
      sound-then total (Held types total t) (Typed types ty.Bool) (option_of v) (λ held. truth (is_some held)) (option-sound types total v t p) (λ held h. typed-bool types (is_some held))

  pub min-sound : (at : ℕ) (a b : Value) → Typed types ty.Int a → Typed types ty.Int b → Fine types total ty.Int (of_two builtin.Min at a b)
  min-sound at a b p q = ints-sound types total ty.Int a b (λ number other. Ok (value.Int (if int_le number other then number else other))) p q (λ x y h k.
      typed-int types (if int_le x y then x else y) (fits-if (int_le x y) x y h k))

  pub max-sound : (at : ℕ) (a b : Value) → Typed types ty.Int a → Typed types ty.Int b → Fine types total ty.Int (of_two builtin.Max at a b)
  max-sound at a b p q = ints-sound types total ty.Int a b (λ number other. Ok (value.Int (if int_le number other then other else number))) p q (λ x y h k.
      typed-int types (if int_le x y then y else x) (fits-if (int_le x y) y x k h))

  ranged-sound : (at : ℕ) (x y : ℤ) → total ≡ false → IsInt types total x → IsInt types total y → Fine types total (ty.List ty.Int) (ranged at x y)
  ranged-sound at x y free h k =
      let count : ℕ = count_of (y -ℤ x) in
      sound-if total (Typed types (ty.List ty.Int)) (nat_le count 65536) (Ok (value.List (numbers_from x count))) (Err (Fault RangeTooLong at))
      (λ low. typed-list types ty.Int (numbers_from x count)
      (record { have = range-fits types count x y h k refl; short = subst (λ (n : ℕ). n ≤ 65536) (sym (range-long types count x)) (leb-true count 65536 low) }))
      (λ low. free)

  pub range-sound : (at : ℕ) (a b : Value) → total ≡ false → Typed types ty.Int a → Typed types ty.Int b → Fine types total (ty.List ty.Int) (of_two builtin.Range at a b)
  range-sound at a b free p q = ints-sound types total (ty.List ty.Int) a b (ranged at) p q (λ x y h k. ranged-sound at x y free h k)

  pub push-sound : (at : ℕ) (t : Ty) (a b : Value) → total ≡ false → Typed types (ty.List t) a → Typed types t b → Fine types total (ty.List t) (of_two builtin.Push at a b)
  push-sound at t a b free p q =
      sound-then total (IsList types t) (Typed types (ty.List t)) (items_of a) (λ items. listed at (items ++ b ∷ [])) (items-sound types total a t p) (λ items h.
      listed-sound types total at t (items ++ b ∷ []) free (all-snoc types t items b h.have q))

  take-list : (t : Ty) (n : ℕ) (items : List Value) → IsList types t items → IsList types t (take n items)
  take-list t n items h = record {
    have = all-take types t n items h.have;
    short = let e : length (take n items) ≡ min n (length items) = length-take n items in let s : length items ≤ 65536 = h.short in omega (arith, e, s);
  }

  drop-list : (t : Ty) (n : ℕ) (items : List Value) → IsList types t items → IsList types t (drop n items)
  drop-list t n items h = record {
    have = all-drop types t n items h.have;
    short = let e = length-drop n items in let s : length items ≤ 65536 = h.short in omega (arith, e, s);
  }

  set-list : (t : Ty) (n : ℕ) (items : List Value) (v : Value) → IsList types t items → Typed types t v → IsList types t (slice_set items n v)
  set-list t n items v h k = record {
    have = all-set types t n items v h.have k;
    short = let e : length (slice_set items n v) ≡ length items = length-set items n v in let s : length items ≤ 65536 = h.short in omega (arith, e, s);
  }

  pub take-sound : (at : ℕ) (t : Ty) (a b : Value) → Typed types (ty.List t) a → Typed types ty.Int b → Fine types total (ty.List t) (of_two builtin.Take at a b)
  take-sound at t a b p q =
      sound-then total (IsList types t) (Typed types (ty.List t)) (items_of a) (λ items. int_of b >>= (λ number. Ok (value.List (take (count_of number) items)))) (items-sound types total a t p) (λ items h.
      sound-then total (IsInt types total) (Typed types (ty.List t)) (int_of b) (λ number. Ok (value.List (take (count_of number) items))) (int-sound types total b q) (λ z _.
      typed-list types t (take (count_of z) items) (take-list t (count_of z) items h)))

  pub skip-sound : (at : ℕ) (t : Ty) (a b : Value) → Typed types (ty.List t) a → Typed types ty.Int b → Fine types total (ty.List t) (of_two builtin.Skip at a b)
  skip-sound at t a b p q =
      sound-then total (IsList types t) (Typed types (ty.List t)) (items_of a) (λ items. int_of b >>= (λ number. Ok (value.List (drop (count_of number) items)))) (items-sound types total a t p) (λ items h.
      sound-then total (IsInt types total) (Typed types (ty.List t)) (int_of b) (λ number. Ok (value.List (drop (count_of number) items))) (int-sound types total b q) (λ z _.
      typed-list types t (drop (count_of z) items) (drop-list t (count_of z) items h)))

  replaced-sound : (at : ℕ) (t : Ty) (items : List Value) (z : ℤ) (v : Value) → total ≡ false → IsList types t items → Typed types t v → Fine types total (ty.List t) (replaced at items z v)
  replaced-sound at t items (pos n) v free h k =
      sound-if total (Typed types (ty.List t)) (nat_lt n (length items)) (Ok (value.List (slice_set items n v))) (Err (Fault IndexOutOfRange at))
      (λ low. typed-list types t (slice_set items n v) (set-list t n items v h k)) (λ low. free)
  replaced-sound at t items (negsuc n) v free h k = free

  pub put-sound : (at : ℕ) (t : Ty) (a b c : Value) → total ≡ false → Typed types (ty.List t) a → Typed types ty.Int b → Typed types t c → Fine types total (ty.List t) (of_three builtin.Put at a b c)
  put-sound at t a b c free p q r =
      sound-then total (IsList types t) (Typed types (ty.List t)) (items_of a) (λ items. int_of b >>= (λ number. replaced at items number c)) (items-sound types total a t p) (λ items h.
      sound-then total (IsInt types total) (Typed types (ty.List t)) (int_of b) (λ number. replaced at items number c) (int-sound types total b q) (λ z _.
      replaced-sound at t items z c free h r))
