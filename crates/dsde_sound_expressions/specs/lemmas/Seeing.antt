-- Names that are seen and their slots, also where one more is bound.
use Rattle.std.proofs.Common.{◌≡◌, ℕ, Bool, true, false, ◌||◌, List, [], ◌∷◌, ◌++◌, map, option_map, Option, Some, None, Ok, bytes_eq, refl, sym, ◌∙◌, ap, subst, true≢false}
use Rattle.std.proofs.lemmas.Bool.{both_ways, not-true, or_from}
use Rattle.dsde_language.specs.given.names.Table.{is_among}
use Rattle.dsde_language.specs.given.syntax.id_Id.{Id}
use Rattle.dsde_language.specs.given.values.types_Field.{Field}
use Rattle.dsde_language.specs.given.values.types_Ty.{Ty}
use Rattle.dsde_language.specs.given.values.types_Ty_TheVariants as ty
use Rattle.dsde_language.specs.declared.known.Around.{Around}
use Rattle.dsde_language.specs.declared.seen.Binding.{Binding}
use Rattle.dsde_language.specs.RuleTables.{binding_name, field_name}
use Rattle.dsde_language.specs.Judge.{bound_to, fresh, unbound}
use Rattle.dsde_language.specs.declared.wrong.WrongKind.TheVariants.{Duplicate}
use Rattle.dsde_language.specs.Steps.{apart}
use Rattle.dsde_language.specs.Judge as rules
use Rattle.dsde_language.specs.Names.{with_slot, elapsed_name}
use Rattle.dsde_language.specs.Proper.{is_plain}
use Rattle.dsde_language.specs.given.words.Words.{is_reserved}
use Rattle.dsde_language.specs.Scopes.{Slotted, Sees}
use Rattle.dsde_sound_expressions.specs.lemmas.Truths.{or-left, or-right}
use Rattle.dsde_sound_expressions.specs.lemmas.Places.{same-name, eq-same, pick, or_last, any-map, added-new, among-snoc, named-map, named-snoc, named-front, unnamed}
use Rattle.dsde_sound_expressions.specs.lemmas.Steps.{went, unless-is}
use Rattle.dsde_sound_expressions.specs.lemmas.Fitting.{field_of}

-- the slot of a name that is bound
abbrev pub own_slot : Binding → Field
own_slot bound = field_of bound.name bound.ty

abbrev pub slots_of : rules.Scope → List Field
slots_of = map own_slot

pub among-slots : (scope : rules.Scope) (name : List ℕ) → is_among field_name (slots_of scope) name ≡ is_among binding_name scope name
among-slots scope name = any-map (λ field. bytes_eq (field_name field) name) own_slot scope

-- Names that are bound are seen by their slots.
pub slots-see : (scope : rules.Scope) → Sees false scope (slots_of scope)
slots-see scope = record {
  seen = λ name bound h. record { field = own_slot bound; found = named-map own_slot field_name scope name ∙ ap (option_map own_slot) h; of = refl };
  unseen = λ name h other. among-slots scope name ∙ h;
  elapsed = λ h. absurd (true≢false (sym h));
}

-- A name that has a slot has it where there are more.
pub slotted-left : (slots more : List Field) (name : List ℕ) (own : Ty) → Slotted slots name own → Slotted (slots ++ more) name own
slotted-left slots more name own s = record { field = s.field; found = named-front field_name slots more name s.field s.found; of = s.of }

-- the slot that is new
pub slotted-new : (slots : List Field) (name : List ℕ) (own : Ty) → is_among field_name slots name ≡ false → Slotted (slots ++ field_of name own ∷ []) name own
slotted-new slots name own new = record {
  field = field_of name own;
  found = named-snoc field_name slots (field_of name own) name
      ∙ ap (λ (found : Option Field). or_last found (pick (bytes_eq name name) (field_of name own) None)) (unnamed field_name slots name new)
      ∙ ap (λ (b : Bool). pick b (field_of name own) None) (eq-same name);
  of = refl;
}

module _ (has_elapsed : Bool) (scope : rules.Scope) (slots : List Field) (sees : Sees has_elapsed scope slots) where
  last-seen : (own : Binding) (name : List ℕ) (bound : Binding) (b : Bool) → bytes_eq own.name name ≡ b → is_among field_name slots own.name ≡ false → pick b own None ≡ Some bound
      → Slotted (slots ++ own_slot own ∷ []) name bound.ty
  last-seen own name bound false is new h = cc
  last-seen own name bound true is new h =
      let same : own ≡ bound = cc h in
      subst (λ (b : Binding). Slotted (slots ++ own_slot own ∷ []) name b.ty) same
      (subst (λ (n : List ℕ). Slotted (slots ++ own_slot own ∷ []) n own.ty) (same-name own.name name is)
      (slotted-new slots own.name own.ty new))

  either-seen : (own : Binding) (name : List ℕ) (bound : Binding) (found : Option Binding) → bound_to scope name ≡ found → is_among field_name slots own.name ≡ false
      → or_last found (pick (bytes_eq own.name name) own None) ≡ Some bound → Slotted (slots ++ own_slot own ∷ []) name bound.ty
  either-seen own name bound None is new h = last-seen own name bound (bytes_eq own.name name) refl new h
  either-seen own name bound (Some before) is new h =
      let same : before ≡ bound = cc h in
      slotted-left slots (own_slot own ∷ []) name bound.ty
      (subst (λ (b : Binding). Slotted slots name b.ty) same (sees.seen name before is))

  -- one more name, and its slot
  pub sees-snoc : (own : Binding) → is_among field_name slots own.name ≡ false → Sees has_elapsed (scope ++ own ∷ []) (slots ++ own_slot own ∷ [])
  sees-snoc own new = record {
    seen = λ name bound h. either-seen own name bound (bound_to scope name) refl new (sym (named-snoc binding_name scope own name) ∙ h);
    unseen = λ name h other.
        let both : (is_among binding_name scope name || (bytes_eq own.name name || false)) ≡ false = sym (among-snoc binding_name scope own name) ∙ h in
        among-snoc field_name slots (own_slot own) name
        ∙ or_from (is_among field_name slots name) (bytes_eq own.name name || false) (sees.unseen name (or-left _ _ both) other) (or-right (is_among binding_name scope name) _ both);
    elapsed = λ h. slotted-left slots (own_slot own ∷ []) elapsed_name ty.Int (sees.elapsed h);
  }

  -- A fresh name that is no word has no slot.
  pub fresh-new : (around : Around) (id : Id) (u : Unit {0}) → fresh around id scope ≡ Ok u → is_plain id ≡ true → is_among field_name slots id.name ≡ false
  fresh-new around id u h plain =
      let w1 = went (apart around.reserved id) (λ _. unbound scope id) u h in
      let new : is_among binding_name scope id.name ≡ false = unless-is (is_among binding_name scope id.name) Duplicate id.at u w1.next in
      let other : is_reserved id.name ≡ false = not-true (is_reserved id.name) plain in
      sees.unseen id.name new (λ same. both_ways _ other (ap is_reserved same))

-- A name that has no slot gets the one behind the others.
pub slot-behind : (slots : List Field) (name : List ℕ) (own : Ty) → is_among field_name slots name ≡ false → with_slot slots name own ≡ slots ++ field_of name own ∷ []
slot-behind slots name own new = added-new field_name slots (field_of name own) new
