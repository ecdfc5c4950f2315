-- The names that are seen, and their slots.
use Rattle.std.proofs.Common.{◌≡◌, Bool, true, false, not, ◌||◌, ◌&&◌, List, [], ◌∷◌, ◌++◌, bytes_eq, refl, sym, ap, subst, ◌∙◌, append_assoc, append-nil, true≢false}
use Rattle.std.proofs.lemmas.Bool.{or_from}
use Rattle.std.specs.List.{list_any, list_all}
use Rattle.dsde_language.specs.given.names.Table.{is_among}
use Rattle.dsde_language.specs.given.values.types_Field.{Field}
use Rattle.dsde_language.specs.given.values.types_Ty_TheVariants as ty
use Rattle.dsde_language.specs.Judge as rules
use Rattle.dsde_language.specs.RuleTables.{field_name}
use Rattle.dsde_language.specs.Names.{with_slots, elapsed_name}
use Rattle.dsde_language.specs.Scopes.{Sees}
use Rattle.dsde_sound_expressions.specs.lemmas.Places.{added-new, among-snoc, other-name}
use Rattle.dsde_sound_expressions.specs.lemmas.Fitting.{field_of}
use Rattle.dsde_sound_expressions.specs.lemmas.Seeing.{slots_of, slots-see, slotted-left, slotted-new}

-- Each of these fields has a name that none before it has.
abbrev pub NewFields : List Field → List Field → Type 0
NewFields before [] = Unit {0}
NewFields before (field ∷ fields) = (is_among field_name before field.name ≡ false) × NewFields (before ++ field ∷ []) fields

pub slots-are : (fields before : List Field) → NewFields before fields → with_slots before fields ≡ before ++ fields
slots-are [] before new = sym (append-nil before)
slots-are (field ∷ fields) before new =
    ap (λ (l : List Field). with_slots l fields) (added-new field_name before field new.0)
    ∙ slots-are fields (before ++ field ∷ []) new.1
    ∙ append_assoc before (field ∷ []) fields

pub none-passes : {X : Type 0} (p : X → Bool) (xs : List X) → list_all (λ x. not (p x)) xs ≡ true → list_any p xs ≡ false
none-passes p [] all = refl
none-passes p (x ∷ xs) all = step (p x) (list_all (λ x. not (p x)) xs) (list_any p xs) all (none-passes p xs)
  where
    step : (b c d : Bool) → (not b && c) ≡ true → (c ≡ true → d ≡ false) → (b || d) ≡ false
    step true c d all rest = absurd (true≢false (sym all))
    step false c d all rest = rest all

pub sees-slots : (scope : rules.Scope) (slots : List Field) → slots_of scope ≡ slots → Sees false scope slots
sees-slots scope slots same = subst (λ (l : List Field). Sees false scope l) same (slots-see scope)

-- `elapsed` behind the others
abbrev pub elapsed_field : Field
elapsed_field = field_of elapsed_name ty.Int

pub sees-moved : (scope : rules.Scope) (slots : List Field) → slots_of scope ≡ slots → is_among field_name slots elapsed_name ≡ false → Sees true scope (slots ++ elapsed_field ∷ [])
sees-moved scope slots same plain =
    let own : Sees false scope slots = sees-slots scope slots same in
    record {
      seen = λ name bound is. slotted-left slots (elapsed_field ∷ []) name bound.ty (own.seen name bound is);
      unseen = λ name none other.
          among-snoc field_name slots elapsed_field name
          ∙ or_from (is_among field_name slots name) (bytes_eq elapsed_name name || false) (own.unseen name none other) (or_from (bytes_eq elapsed_name name) false (other-name elapsed_name name (λ is. other (sym is))) refl);
      elapsed = λ has. slotted-new slots elapsed_name ty.Int plain;
    }
