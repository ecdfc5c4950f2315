-- A variant by its number.
use Rattle.std.proofs.Common.{◌≡◌, ℕ, ◌+◌, ◌^◌, ◌≤◌, ◌<◌, Bool, true, false, ◌||◌, not, cond, List, [], ◌∷◌, length, Option, Some, None, refl, sym, ◌∙◌, ap, arith, nat_lt, slice_get}
use Rattle.std.specs.Prelude.{unwrap_or, option_and_then}
use Rattle.std.specs.List.{list_any, position, prefix_len}
use Rattle.std.specs.Str.{bytes_eq}
use Rattle.std.proofs.lemmas.Bool.{and_from}
use borrow.Author.Tests.{lt-ltb}
use Rattle.dsde_language.specs.given.values.types_Shape.{Shape}
use Rattle.dsde_language.specs.given.values.types_Types.{Types}
use Rattle.dsde_language.specs.given.values.Value as values
use Rattle.dsde_language.specs.given.values.Value.{is_variant}
use Rattle.dsde_language.specs.declared.known.Known.{Known}
use Rattle.dsde_language.specs.Judge.{declared_type, variants_in, variants_at}
use Rattle.dsde_language.specs.Names.{type_number, variant_number}
use Rattle.dsde_language.specs.Scopes.{Within, IsDeclared, AreVariants}

-- a place below the length
below-case : {T : Type 0} (p : T → Bool) (x : T) (xs : List T) → (list_any p xs ≡ true → prefix_len (λ x. not (p x)) xs < length xs) → (b : Bool) → p x ≡ b → list_any p (x ∷ xs) ≡ true → prefix_len (λ x. not (p x)) (x ∷ xs) < length (x ∷ xs)
below-case p x xs next true e h =
    let is : prefix_len (λ x. not (p x)) (x ∷ xs) ≡ 0 = ap (λ (b : Bool). cond (not b) (1 + prefix_len (λ x. not (p x)) xs) 0) e in
    omega (arith, is)
below-case p x xs next false e h =
    let is : prefix_len (λ x. not (p x)) (x ∷ xs) ≡ 1 + prefix_len (λ x. not (p x)) xs = ap (λ (b : Bool). cond (not b) (1 + prefix_len (λ x. not (p x)) xs) 0) e in
    let rest : list_any p xs ≡ true = sym (ap (λ (b : Bool). b || list_any p xs) e) ∙ h in
    let low = next rest in
    omega (arith, is, low)

prefix-below : {T : Type 0} (p : T → Bool) (xs : List T) → list_any p xs ≡ true → prefix_len (λ x. not (p x)) xs < length xs
prefix-below p [] h = cc
prefix-below p (x ∷ xs) h = below-case p x xs (λ k. prefix-below p xs k) (p x) refl h

-- the place of what is there
pub found-below : {T : Type 0} (p : T → Bool) (xs : List T) → list_any p xs ≡ true → unwrap_or (position p xs) 0 < length xs
found-below p xs h =
    let low : prefix_len (λ x. not (p x)) xs < length xs = prefix-below p xs h in
    let is : unwrap_or (position p xs) 0 ≡ prefix_len (λ x. not (p x)) xs =
    ap (λ (b : Bool). unwrap_or (cond b (Some (prefix_len (λ x. not (p x)) xs)) None) 0) (lt-ltb (prefix_len (λ x. not (p x)) xs) (length xs) low) in
    omega (arith, is, low)

-- the numbers of an enum and of one of its variants
pub record VariantIs (types : Types) (whole : Known) (owner variant : List ℕ) (number : ℕ) : Type 0 where
  pub owned : type_number whole owner ≡ number
  pub is : is_variant types number (variant_number whole owner variant) ≡ true

pub variant-is : (types : Types) (known whole : Known) → Within types known whole → (owner variant : List ℕ) (number : ℕ) (names : List (List ℕ)) → declared_type known owner ≡ Some number → variants_at known number ≡ Some names
    → list_any (λ name. bytes_eq name variant) names ≡ true → VariantIs types whole owner variant number
variant-is types known whole within owner variant number names is are among =
    let d : IsDeclared known whole owner number = within.words owner number is in
    let n : type_number whole owner ≡ number = ap (λ (o : Option ℕ). unwrap_or o 0) d.place in
    let at : variants_at whole number ≡ Some names = ap (λ (shapes : List Shape). option_and_then variants_in (slice_get shapes number)) (sym within.shapes) ∙ are in
    let v : AreVariants types number names = within.enums number names at in
    let place : ℕ = variant_number whole owner variant in
    let few : length names ≤ 2 ^ 32 = v.few in
    let e : place ≡ unwrap_or (position (λ name. bytes_eq name variant) names) 0 =
    ap (λ (k : ℕ). unwrap_or (position (λ name. bytes_eq name variant) (unwrap_or (variants_at whole k) [])) 0) n
    ∙ ap (λ (o : Option (List (List ℕ))). unwrap_or (position (λ name. bytes_eq name variant) (unwrap_or o [])) 0) at in
    let low : unwrap_or (position (λ name. bytes_eq name variant) names) 0 < length names = found-below (λ name. bytes_eq name variant) names among in
    record {
      owned = n;
      is = and_from (nat_lt place (2 ^ 32)) (nat_lt place (length (values.variants_at types number)))
          (lt-ltb place (2 ^ 32) (omega (arith, e, low, few)))
          (ap (λ (l : List (List ℕ)). nat_lt place (length l)) v.are ∙ lt-ltb place (length names) (omega (arith, e, low)));
    }
