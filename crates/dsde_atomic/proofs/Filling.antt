-- Values that fill slots, as variables.
use Rattle.std.proofs.Common.{◌≡◌, ℕ, zero, suc, ◌+◌, ◌≤◌, ◌<◌, List, [], ◌∷◌, ◌++◌, length, take, drop, slice_index_or, add-one, drop-cons, refl, ap, arith}
use Rattle.dsde_values.specs.declared.types.Field.{Field}
use Rattle.dsde_values.specs.declared.types.Types.{Types}
use Rattle.dsde_values.specs.declared.value.Value.{Value}
use Rattle.dsde_language.specs.Meaning.{Vars}
use Rattle.dsde_language.specs.Typed.{Fits, values_in}
use Rattle.dsde_system.specs.Body.{vars_of}
use Rattle.dsde_system.specs.Fitting.{Fill}

module _ (types : Types) where
  pub fits-vars : (fields : List Field) (values : List Value) → Fill types fields values → Fits types (vars_of fields values) fields
  fits-vars [] [] fill = tt
  fits-vars [] (value ∷ values) fill = absurd fill
  fits-vars (field ∷ fields) [] fill = absurd fill
  fits-vars (field ∷ fields) (value ∷ values) fill = (refl, fill.0, fits-vars fields values fill.1)

  pub values-vars : (fields : List Field) (values : List Value) → Fill types fields values → values_in (vars_of fields values) ≡ values
  values-vars [] [] fill = refl
  values-vars [] (value ∷ values) fill = absurd fill
  values-vars (field ∷ fields) [] fill = absurd fill
  values-vars (field ∷ fields) (value ∷ values) fill = ap (λ (l : List Value). value ∷ l) (values-vars fields values fill.1)

  pub fill-length : (fields : List Field) (values : List Value) → Fill types fields values → length values ≡ length fields
  fill-length [] [] fill = refl
  fill-length [] (value ∷ values) fill = absurd fill
  fill-length (field ∷ fields) [] fill = absurd fill
  fill-length (field ∷ fields) (value ∷ values) fill = ap (λ (n : ℕ). suc n) (fill-length fields values fill.1)

  pub fill-append : (fields others : List Field) (values more : List Value) → Fill types fields values → Fill types others more → Fill types (fields ++ others) (values ++ more)
  fill-append [] others [] more fill rest = rest
  fill-append [] others (value ∷ values) more fill rest = absurd fill
  fill-append (field ∷ fields) others [] more fill rest = absurd fill
  fill-append (field ∷ fields) others (value ∷ values) more fill rest = (fill.0, fill-append fields others values more fill.1 rest)

  pub fill-take : (count : ℕ) (fields : List Field) (values : List Value) → Fill types fields values → Fill types (take count fields) (take count values)
  fill-take zero fields values fill = tt
  fill-take (suc count) [] [] fill = tt
  fill-take (suc count) [] (value ∷ values) fill = absurd fill
  fill-take (suc count) (field ∷ fields) [] fill = absurd fill
  fill-take (suc count) (field ∷ fields) (value ∷ values) fill = (fill.0, fill-take count fields values fill.1)

  pub fill-drop : (count : ℕ) (fields : List Field) (values : List Value) → Fill types fields values → Fill types (drop count fields) (drop count values)
  fill-drop zero fields values fill = fill
  fill-drop (suc count) [] [] fill = tt
  fill-drop (suc count) [] (value ∷ values) fill = absurd fill
  fill-drop (suc count) (field ∷ fields) [] fill = absurd fill
  fill-drop (suc count) (field ∷ fields) (value ∷ values) fill = fill-drop count fields values fill.1

  pub fits-fill : (vars : Vars) (fields : List Field) → Fits types vars fields → Fill types fields (values_in vars)
  fits-fill [] [] fits = tt
  fits-fill [] (field ∷ fields) fits = absurd fits
  fits-fill (var ∷ vars) [] fits = absurd fits
  fits-fill (var ∷ vars) (field ∷ fields) fits = (fits.1, fits-fill vars fields fits.2)

  pub vars-append : (fields others : List Field) (values more : List Value) → Fill types fields values → vars_of (fields ++ others) (values ++ more) ≡ vars_of fields values ++ vars_of others more
  vars-append [] others [] more fill = refl
  vars-append [] others (value ∷ values) more fill = absurd fill
  vars-append (field ∷ fields) others [] more fill = absurd fill
  vars-append (field ∷ fields) others (value ∷ values) more fill = ap (λ (l : Vars). record { name = field.name; value = value } ∷ l) (vars-append fields others values more fill.1)

  pub fits-append : (vars more : Vars) (fields others : List Field) → Fits types vars fields → Fits types more others → Fits types (vars ++ more) (fields ++ others)
  fits-append [] more [] others fits rest = rest
  fits-append [] more (field ∷ fields) others fits rest = absurd fits
  fits-append (var ∷ vars) more [] others fits rest = absurd fits
  fits-append (var ∷ vars) more (field ∷ fields) others fits rest = (fits.0, fits.1, fits-append vars more fields others fits.2 rest)

pub values-append : (vars more : Vars) → values_in (vars ++ more) ≡ values_in vars ++ values_in more
values-append [] more = refl
values-append (var ∷ vars) more = ap (λ (l : List Value). var.value ∷ l) (values-append vars more)

pub drop-past : {A : Type 0} (xs ys : List A) → drop (length xs) (xs ++ ys) ≡ ys
drop-past [] ys = refl
drop-past (x ∷ xs) ys = drop-past xs ys

pub take-all : {A : Type 0} (xs ys : List A) → take (length xs) (xs ++ ys) ≡ xs
take-all [] ys = refl
take-all {A = A} (x ∷ xs) ys = ap (λ (l : List A). x ∷ l) (take-all xs ys)

pub drop-at : {A : Type 0} (xs : List A) (i : ℕ) (d : A) → i < length xs → drop i xs ≡ slice_index_or xs i d ∷ drop (i + 1) xs
drop-at xs i d h = rw (add-one, drop-cons xs i d) refl

pub drop-over : {A : Type 0} (xs : List A) (i : ℕ) → length xs ≤ i → drop i xs ≡ []
drop-over [] zero h = refl
drop-over [] (suc i) h = refl
drop-over (x ∷ xs) zero h = absurd (omega (arith, h))
drop-over (x ∷ xs) (suc i) h = drop-over xs i (omega (arith, h))
