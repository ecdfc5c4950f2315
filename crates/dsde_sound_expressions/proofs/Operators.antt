-- What operators make of values of their types.
use Rattle.std.proofs.Common.{◌≡◌, ℕ, zero, suc, ℤ, pos, negsuc, ◌+ℤ◌, ◌-ℤ◌, ◌*ℤ◌, Bool, true, false, not, if◌then◌else◌, List, [], ◌∷◌, ◌++◌, length, Option, Some, None, Ok, Err, refl, nat_le}
use Rattle.std.specs.Prelude.{int_div, int_rem, int_lt, int_le}
use borrow.Author.Tests.{leb-true}
use Rattle.dsde_language.specs.given.values.types_Ty.{Ty}
use Rattle.dsde_language.specs.given.values.types_Ty_TheVariants as ty
use Rattle.dsde_language.specs.given.values.types_Types.{Types}
use Rattle.dsde_language.specs.given.values.value_Value.{Value}
use Rattle.dsde_language.specs.given.values.value_Value_TheVariants as value
use Rattle.dsde_language.specs.given.values.Value.{fits_int}
use Rattle.dsde_language.specs.given.faults.kind_FaultKind_TheVariants.{Overflow, DivideByZero, EmptyOption, RangeTooLong}
use Rattle.dsde_language.specs.declared.operator.Binary.{Binary}
use Rattle.dsde_language.specs.declared.operator.Binary.TheVariants as binary
use Rattle.dsde_language.specs.Outcome.{Fault, Outcome, ◌>>=◌, int_of, truth_of, items_of, option_of}
use Rattle.dsde_language.specs.MeaningOperators.{same_value, whole, nearest, listed, is_zero, divided, remaining, of_ints, truth, joined, operated, combined, denied, negated, or_else, unwrapped, item_at, indexed}
use Rattle.dsde_language.specs.Typed.{Typed, Sound}
use Rattle.dsde_sound_expressions.specs.lemmas.Outcomes.{Any, sound-then, sound-if}
use Rattle.dsde_sound_expressions.specs.lemmas.Values.{AllHave, IsList, Held, typed-int, typed-bool, typed-list, int-sound, truth-sound, items-sound, option-sound, all-cons, all-append}
use Rattle.dsde_sound_expressions.proofs.Numbers.{nearest-fits, rem-fits}

module _ (types : Types) (total : Bool) where
  -- an outcome of a type
  abbrev pub Fine : Ty → Outcome Value → Type 0
  Fine t x = Sound total (Typed types t) x

  -- a whole number of 64 signed bits
  abbrev pub IsInt : ℤ → Type 0
  IsInt z = fits_int z ≡ true

  pub whole-sound : (at : ℕ) (z : ℤ) → total ≡ false → Fine ty.Int (whole at z)
  whole-sound at z free = sound-if total (Typed types ty.Int) (fits_int z) (Ok (value.Int z)) (Err (Fault Overflow at)) (λ h. typed-int types z h) (λ h. free)

  pub listed-sound : (at : ℕ) (t : Ty) (items : List Value) → total ≡ false → AllHave types t items → Fine (ty.List t) (listed at items)
  listed-sound at t items free all =
      sound-if total (Typed types (ty.List t)) (nat_le (length items) 65536) (Ok (value.List items)) (Err (Fault RangeTooLong at))
      (λ h. typed-list types t items (record { have = all; short = leb-true (length items) 65536 h })) (λ h. free)

  pub ints-sound : (t : Ty) (a b : Value) (next : ℤ → ℤ → Outcome Value) → Typed types ty.Int a → Typed types ty.Int b → ((x y : ℤ) → IsInt x → IsInt y → Fine t (next x y)) → Fine t (of_ints a b next)
  ints-sound t a b next p q sounds =
      sound-then total IsInt (Typed types t) (int_of a) (λ number. int_of b >>= (λ other. next number other)) (int-sound types total a p) (λ x h.
      sound-then total IsInt (Typed types t) (int_of b) (λ other. next x other) (int-sound types total b q) (λ y k. sounds x y h k))

  divided-sound : (at : ℕ) (x y : ℤ) → total ≡ false → Fine ty.Int (divided at x y)
  divided-sound at x y free =
      sound-if total (Typed types ty.Int) (is_zero y) (Err (Fault DivideByZero at)) (whole at (int_div x y)) (λ h. free) (λ h. whole-sound at (int_div x y) free)

  remaining-sound : (at : ℕ) (x y : ℤ) → total ≡ false → IsInt y → Fine ty.Int (remaining at x y)
  remaining-sound at x y free fits = by_zero (is_zero y) refl
    where
      by_zero : (b : Bool) → is_zero y ≡ b → Fine ty.Int ((if b then Err (Fault DivideByZero at) else whole at (int_div x y)) >>= (λ quotient. Ok (value.Int (int_rem x y))))
      by_zero true e = free
      by_zero false e =
          sound-then total (Typed types ty.Int) (Typed types ty.Int) (whole at (int_div x y)) (λ quotient. Ok (value.Int (int_rem x y))) (whole-sound at (int_div x y) free) (λ v typed. typed-int types (int_rem x y) (rem-fits x y fits e))

  joined-sound : (at : ℕ) (t : Ty) (a b : Value) → total ≡ false → Typed types (ty.List t) a → Typed types (ty.List t) b → Fine (ty.List t) (joined at a b)
  joined-sound at t a b free p q =
      sound-then total (IsList types t) (Typed types (ty.List t)) (items_of a) (λ items. items_of b >>= (λ others. listed at (items ++ others))) (items-sound types total a t p) (λ xs h.
      sound-then total (IsList types t) (Typed types (ty.List t)) (items_of b) (λ others. listed at (xs ++ others)) (items-sound types total b t q) (λ ys k.
      listed-sound at t (xs ++ ys) free (all-append types t xs ys h.have k.have)))

  -- "or" and "and"
  pub or-sound : (at : ℕ) (v : Value) (x : Outcome Value) → Typed types ty.Bool v → Fine ty.Bool x → Fine ty.Bool (combined binary.Or at v x)
  or-sound at v x p q =
      sound-then {A = Bool} total Any (Typed types ty.Bool) (truth_of v) (λ holds. if holds then truth true else x) (truth-sound types total v p) (λ b _.
      sound-if total (Typed types ty.Bool) b (truth true) x (λ h. typed-bool types true) (λ h. q))

  pub and-sound : (at : ℕ) (v : Value) (x : Outcome Value) → Typed types ty.Bool v → Fine ty.Bool x → Fine ty.Bool (combined binary.And at v x)
  and-sound at v x p q =
      sound-then {A = Bool} total Any (Typed types ty.Bool) (truth_of v) (λ holds. if holds then x else truth false) (truth-sound types total v p) (λ b _.
      sound-if total (Typed types ty.Bool) b x (truth false) (λ h. q) (λ h. typed-bool types false))

  -- an operator that looks at both sides
  abbrev both : Binary → ℕ → Value → Outcome Value → Outcome Value
  both which at v x = x >>= (λ other. operated which at v other)

  both-sound : (which : Binary) (at : ℕ) (t u w : Ty) (v : Value) (x : Outcome Value) → ((a b : Value) → Typed types t a → Typed types u b → Fine w (operated which at a b)) → Typed types t v → Fine u x → Fine w (both which at v x)
  both-sound which at t u w v x sounds p q = sound-then total (Typed types u) (Typed types w) x (λ other. operated which at v other) q (λ b k. sounds v b p k)

  truths-sound : (a b : Value) (test : ℤ → ℤ → Bool) → Typed types ty.Int a → Typed types ty.Int b → Fine ty.Bool (of_ints a b (λ number other. truth (test number other)))
  truths-sound a b test p q = ints-sound ty.Bool a b (λ number other. truth (test number other)) p q (λ x y h k. typed-bool types (test x y))

  nears-sound : (a b : Value) (made : ℤ → ℤ → ℤ) → Typed types ty.Int a → Typed types ty.Int b → Fine ty.Int (of_ints a b (λ number other. Ok (value.Int (nearest (made number other)))))
  nears-sound a b made p q = ints-sound ty.Int a b (λ number other. Ok (value.Int (nearest (made number other)))) p q (λ x y h k. typed-int types (nearest (made x y)) (nearest-fits (made x y)))

  wholes-sound : (at : ℕ) (a b : Value) (made : ℤ → ℤ → ℤ) → total ≡ false → Typed types ty.Int a → Typed types ty.Int b → Fine ty.Int (of_ints a b (λ number other. whole at (made number other)))
  wholes-sound at a b made free p q = ints-sound ty.Int a b (λ number other. whole at (made number other)) p q (λ x y h k. whole-sound at (made x y) free)

  pub equal-sound : (at : ℕ) (t : Ty) (v : Value) (x : Outcome Value) → Typed types t v → Fine t x → Fine ty.Bool (combined binary.Equal at v x)
  equal-sound at t v x = both-sound binary.Equal at t t ty.Bool v x (λ a b p q. typed-bool types (same_value a b))

  pub apart-sound : (at : ℕ) (t : Ty) (v : Value) (x : Outcome Value) → Typed types t v → Fine t x → Fine ty.Bool (combined binary.NotEqual at v x)
  apart-sound at t v x = both-sound binary.NotEqual at t t ty.Bool v x (λ a b p q. typed-bool types (not (same_value a b)))

  abbrev Sounds : Binary → ℕ → Ty → Ty → Type 0
  Sounds which at t u = (v : Value) (x : Outcome Value) → Typed types t v → Fine t x → Fine u (combined which at v x)

  pub less-sound : (at : ℕ) → Sounds binary.Less at ty.Int ty.Bool
  less-sound at v x = both-sound binary.Less at ty.Int ty.Int ty.Bool v x (λ a b p q. truths-sound a b (λ m n. int_lt m n) p q)

  pub at-most-sound : (at : ℕ) → Sounds binary.LessEqual at ty.Int ty.Bool
  at-most-sound at v x = both-sound binary.LessEqual at ty.Int ty.Int ty.Bool v x (λ a b p q. truths-sound a b (λ m n. int_le m n) p q)

  pub greater-sound : (at : ℕ) → Sounds binary.Greater at ty.Int ty.Bool
  greater-sound at v x = both-sound binary.Greater at ty.Int ty.Int ty.Bool v x (λ a b p q. truths-sound a b (λ m n. int_lt n m) p q)

  pub at-least-sound : (at : ℕ) → Sounds binary.GreaterEqual at ty.Int ty.Bool
  at-least-sound at v x = both-sound binary.GreaterEqual at ty.Int ty.Int ty.Bool v x (λ a b p q. truths-sound a b (λ m n. int_le n m) p q)

  pub add-sound : (at : ℕ) → total ≡ false → Sounds binary.Add at ty.Int ty.Int
  add-sound at free v x = both-sound binary.Add at ty.Int ty.Int ty.Int v x (λ a b p q. wholes-sound at a b (λ m n. m +ℤ n) free p q)

  pub sub-sound : (at : ℕ) → total ≡ false → Sounds binary.Sub at ty.Int ty.Int
  sub-sound at free v x = both-sound binary.Sub at ty.Int ty.Int ty.Int v x (λ a b p q. wholes-sound at a b (λ m n. m -ℤ n) free p q)

  pub mul-sound : (at : ℕ) → total ≡ false → Sounds binary.Mul at ty.Int ty.Int
  mul-sound at free v x = both-sound binary.Mul at ty.Int ty.Int ty.Int v x (λ a b p q. wholes-sound at a b (λ m n. m *ℤ n) free p q)

  pub div-sound : (at : ℕ) → total ≡ false → Sounds binary.Div at ty.Int ty.Int
  div-sound at free v x = both-sound binary.Div at ty.Int ty.Int ty.Int v x (λ a b p q. ints-sound ty.Int a b (divided at) p q (λ m n h k. divided-sound at m n free))

  pub rem-sound : (at : ℕ) → total ≡ false → Sounds binary.Rem at ty.Int ty.Int
  rem-sound at free v x = both-sound binary.Rem at ty.Int ty.Int ty.Int v x (λ a b p q. ints-sound ty.Int a b (remaining at) p q (λ m n h k. remaining-sound at m n free k))

  pub cap-add-sound : (at : ℕ) → Sounds binary.CapAdd at ty.Int ty.Int
  cap-add-sound at v x = both-sound binary.CapAdd at ty.Int ty.Int ty.Int v x (λ a b p q. nears-sound a b (λ m n. m +ℤ n) p q)

  pub cap-sub-sound : (at : ℕ) → Sounds binary.CapSub at ty.Int ty.Int
  cap-sub-sound at v x = both-sound binary.CapSub at ty.Int ty.Int ty.Int v x (λ a b p q. nears-sound a b (λ m n. m -ℤ n) p q)

  pub cap-mul-sound : (at : ℕ) → Sounds binary.CapMul at ty.Int ty.Int
  cap-mul-sound at v x = both-sound binary.CapMul at ty.Int ty.Int ty.Int v x (λ a b p q. nears-sound a b (λ m n. m *ℤ n) p q)

  pub join-sound : (at : ℕ) (t : Ty) → total ≡ false → Sounds binary.Join at (ty.List t) (ty.List t)
  join-sound at t free v x = both-sound binary.Join at (ty.List t) (ty.List t) (ty.List t) v x (λ a b p q. joined-sound at t a b free p q)

  -- signs of one part
  pub denied-sound : (v : Value) → Typed types ty.Bool v → Fine ty.Bool (denied v)
  denied-sound v p = sound-then {A = Bool} total Any (Typed types ty.Bool) (truth_of v) (λ holds. truth (not holds)) (truth-sound types total v p) (λ b _. typed-bool types (not b))

  pub negated-sound : (at : ℕ) → total ≡ false → (v : Value) → Typed types ty.Int v → Fine ty.Int (negated at v)
  negated-sound at free v p = sound-then total IsInt (Typed types ty.Int) (int_of v) (λ number. whole at (pos 0 -ℤ number)) (int-sound types total v p) (λ z h. whole-sound at (pos 0 -ℤ z) free)

  or-else-held : (t : Ty) (held : Option Value) (x : Outcome Value) → Held types total t held → Fine t x → Fine t (elim held [ None ↦ x | Some inner ↦ Ok inner ])
  or-else-held t None x p q = q
  or-else-held t (Some v) x p q = p

  pub or-else-sound : (t : Ty) (v : Value) (x : Outcome Value) → Typed types (ty.Opt t) v → Fine t x → Fine t (or_else v x)
  or-else-sound t v x p q =
      sound-then total (Held types total t) (Typed types t) (option_of v) (λ held. elim held [ None ↦ x | Some inner ↦ Ok inner ]) (option-sound types total v t p) (λ held h. or-else-held t held x h q)

  pub unwrapped-sound : (at : ℕ) (t : Ty) → total ≡ false → (v : Value) → Typed types (ty.Opt t) v → Fine t (unwrapped at v)
  unwrapped-sound at t free v p = or-else-sound t v (Err (Fault EmptyOption at)) p free

  item-found : (at : ℕ) (t : Ty) (items : List Value) (n : ℕ) → total ≡ false → AllHave types t items → Fine t (item_at at items (pos n))
  item-found at t [] n free all = free
  item-found at t (v ∷ items) zero free all = (all-cons types t v items all).0
  item-found at t (v ∷ items) (suc n) free all = item-found at t items n free (all-cons types t v items all).1

  item-sound : (at : ℕ) (t : Ty) (items : List Value) (z : ℤ) → total ≡ false → AllHave types t items → Fine t (item_at at items z)
  item-sound at t items (pos n) free all = item-found at t items n free all
  item-sound at t items (negsuc n) free all = free

  pub indexed-sound : (at : ℕ) (t : Ty) → total ≡ false → (a : Value) (x : Outcome Value) → Typed types (ty.List t) a → Fine ty.Int x → Fine t (x >>= (λ b. indexed at a b))
  indexed-sound at t free a x p q =
      sound-then total (Typed types ty.Int) (Typed types t) x (λ b. indexed at a b) q (λ b k.
      sound-then total (IsList types t) (Typed types t) (items_of a) (λ items. int_of b >>= (λ number. item_at at items number)) (items-sound types total a t p) (λ items h.
      sound-then total IsInt (Typed types t) (int_of b) (λ number. item_at at items number) (int-sound types total b k) (λ z _. item-sound at t items z free h.have)))
