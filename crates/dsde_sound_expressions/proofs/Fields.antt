-- A field by its number and by its name, and what types hold.
use Rattle.std.proofs.Common.{◌≡◌, ℕ, zero, suc, ◌==◌, Bool, true, false, ◌&&◌, List, [], ◌∷◌, map, Option, Some, None, Result, Ok, Err, refl, sym, ◌∙◌, ap, subst, slice_get}
use Rattle.std.specs.Prelude.{unwrap_or, option_and_then}
use Rattle.std.specs.Option.{option_map_or}
use Rattle.std.proofs.lemmas.Bool.{eqb-true}
use Rattle.dsde_language.specs.given.names.Table.{place_of, named}
use Rattle.dsde_language.specs.given.syntax.id_Id.{Id}
use Rattle.dsde_language.specs.given.values.types_Field.{Field}
use Rattle.dsde_language.specs.given.values.types_Shape.{Shape}
use Rattle.dsde_language.specs.given.values.types_Ty.{Ty, Ty-F, out-Ty, roll-Ty}
use Rattle.dsde_language.specs.given.values.types_Ty_TheOpen as open_ty
use Rattle.dsde_language.specs.given.values.types_Ty_TheVariants as ty
use Rattle.dsde_language.specs.given.values.types_Ty_TheViews.{roll-out-Ty, rolls-Rec, outs-Rec as ty_Rec}
use Rattle.dsde_language.specs.given.values.types_Types.{Types}
use Rattle.dsde_language.specs.given.values.value_Value.{Value, Value-F, out-Value, map-Value}
use Rattle.dsde_language.specs.given.values.value_Value_TheOpen as layer
use Rattle.dsde_language.specs.given.values.Value as values
use Rattle.dsde_language.specs.given.values.Value.{type_step, has_type}
use Rattle.dsde_language.specs.declared.known.Known.{Known}
use Rattle.dsde_language.specs.declared.seen.Seen.{Seen}
use Rattle.dsde_language.specs.declared.wrong.Wrong.{Wrong}
use Rattle.dsde_language.specs.declared.wrong.WrongKind.TheVariants.{Unknown, WrongType}
use Rattle.dsde_language.specs.Steps.{wrong}
use Rattle.dsde_language.specs.RuleTables.{field_name}
use Rattle.dsde_language.specs.Judge.{fields_at, fields_of, field_in, field_of}
use Rattle.dsde_language.specs.Names.{slot_of}
use Rattle.dsde_language.specs.Typing.{slot_type, fields_in, field_number, field_type}
use Rattle.dsde_language.specs.Outcome.{Stuck, Outcome, ◌>>=◌, present}
use Rattle.dsde_language.specs.Meaning.{part_named, field_named}
use Rattle.dsde_language.specs.MeaningTables.{field_at}
use Rattle.dsde_language.specs.Typed.{Typed}
use Rattle.dsde_language.specs.Scopes.{Within}
use Rattle.dsde_sound_expressions.specs.lemmas.Steps.{ok-is}
use Rattle.dsde_sound_expressions.specs.lemmas.Truths.{and-left, and-right}
use Rattle.dsde_sound_expressions.specs.lemmas.Values.{by_layer}
use Rattle.dsde_sound_expressions.specs.lemmas.Places.{Placed, placed}

-- the fields of a record type
pub fields-of-rec : (known : Known) (number : ℕ) → fields_of known (ty.Rec number) ≡ fields_at known number
fields-of-rec known number = ap (λ (u : Ty-F Ty). elim u [ open_ty.Rec own ↦ fields_at known own | _ ↦ None ]) (ty_Rec number)

-- what is known of a field
pub record FieldIs (known : Known) (left : Seen) (name : Id) (t : Ty) : Type 0 where
  pub number : ℕ
  pub fields : List Field
  pub field : Field
  pub is : left.ty ≡ ty.Rec number
  pub own : fields_at known number ≡ Some fields
  pub found : named field_name fields name.name ≡ Some field
  pub of : field.ty ≡ t

abbrev layer_fields : Known → Ty-F Ty → Option (List Field)
layer_fields known u = elim u [ open_ty.Rec number ↦ fields_at known number | _ ↦ None ]

abbrev in_fields : Seen → Id → Option (List Field) → Result Ty Wrong
in_fields left name own = elim own [ None ↦ wrong WrongType left.at | Some fields ↦ field_in fields name ]

abbrev of_field : Id → Option Field → Result Ty Wrong
of_field name own = elim own [ None ↦ wrong Unknown name.at | Some field ↦ Ok field.ty ]

module _ (known : Known) (left : Seen) (name : Id) (t : Ty) where
  field-found : (number : ℕ) → left.ty ≡ ty.Rec number → (fields : List Field) → fields_at known number ≡ Some fields → (own : Option Field) → named field_name fields name.name ≡ own → of_field name own ≡ Ok t → FieldIs known left name t
  field-found number is fields at None found h = cc
  field-found number is fields at (Some field) found h = record { number = number; fields = fields; field = field; is = is; own = at; found = found; of = ok-is field.ty t h }

  fields-found : (number : ℕ) → left.ty ≡ ty.Rec number → (own : Option (List Field)) → fields_at known number ≡ own → in_fields left name own ≡ Ok t → FieldIs known left name t
  fields-found number is None at h = cc
  fields-found number is (Some fields) at h = field-found number is fields at (named field_name fields name.name) refl h

  field-layer : (u : Ty-F Ty) → left.ty ≡ roll-Ty u → in_fields left name (layer_fields known u) ≡ Ok t → FieldIs known left name t
  field-layer open_ty.Int is h = cc
  field-layer open_ty.Bool is h = cc
  field-layer (open_ty.Enum number) is h = cc
  field-layer (open_ty.List inner) is h = cc
  field-layer (open_ty.Opt inner) is h = cc
  field-layer (open_ty.Rec number) is h = fields-found number (is ∙ rolls-Rec number) (fields_at known number) refl h

  pub field-is : field_of known left name ≡ Ok t → FieldIs known left name t
  field-is h = field-layer (out-Ty left.ty) (sym (roll-out-Ty left.ty)) h

-- the values of a record's fields
pub record IsRec (types : Types) (number : ℕ) (fields : List Field) (w : Value-F Value) : Type 0 where
  pub parts : List Value
  pub is : w ≡ layer.Rec number parts
  pub fill : values.fill (map (has_type types) parts) fields ≡ true

rec-parts : (types : Types) (number : ℕ) (fields : List Field) → values.fields_at types number ≡ Some fields → (own : ℕ) (parts : List Value)
    → ((own == number) && option_map_or (values.fill (map (has_type types) parts)) (values.fields_at types number) false) ≡ true → IsRec types number fields (layer.Rec own parts)
rec-parts types number fields at own parts h =
    let e : own ≡ number = eqb-true own number (and-left (own == number) (option_map_or (values.fill (map (has_type types) parts)) (values.fields_at types number) false) h) in
    record {
      parts = parts;
      is = ap (λ (n : ℕ). layer.Rec n parts) e;
      fill = ap (λ (o : Option (List Field)). option_map_or (values.fill (map (has_type types) parts)) o false) (sym at)
          ∙ and-right (own == number) (option_map_or (values.fill (map (has_type types) parts)) (values.fields_at types number) false) h;
    }

rec-layer : (types : Types) (number : ℕ) (fields : List Field) → values.fields_at types number ≡ Some fields → (w : Value-F Value) → type_step types (map-Value Value (Ty → Bool) (has_type types) w) (open_ty.Rec number) ≡ true → IsRec types number fields w
rec-layer types number fields at (layer.Int n) h = cc
rec-layer types number fields at (layer.Bool truth) h = cc
rec-layer types number fields at (layer.Enum own variant) h = cc
rec-layer types number fields at (layer.Rec own parts) h = rec-parts types number fields at own parts h
rec-layer types number fields at (layer.List items) h = cc
rec-layer types number fields at layer.Nothing h = cc
rec-layer types number fields at (layer.Some inner) h = cc

pub rec-is : (types : Types) (number : ℕ) (fields : List Field) → values.fields_at types number ≡ Some fields → (v : Value) → Typed types (ty.Rec number) v → IsRec types number fields (out-Value v)
rec-is types number fields at v h = rec-layer types number fields at (out-Value v) (sym (by_layer types v (ty.Rec number) (out-Value v) (open_ty.Rec number) refl (ty_Rec number)) ∙ h.has)

-- the value of a field
pub record PartIs (types : Types) (parts : List Value) (place : ℕ) (t : Ty) : Type 0 where
  pub own : Value
  pub is : slice_get parts place ≡ Some own
  pub typed : Typed types t own

fill-part : (types : Types) (parts : List Value) (fields : List Field) → values.fill (map (has_type types) parts) fields ≡ true → (place : ℕ) (field : Field) → slice_get fields place ≡ Some field → PartIs types parts place field.ty
fill-part types [] [] h place field is = cc
fill-part types [] (other ∷ fields) h place field is = cc
fill-part types (v ∷ parts) [] h place field is = cc
fill-part types (v ∷ parts) (other ∷ fields) h zero field is =
    let own : Typed types other.ty v = record { has = and-left (has_type types v other.ty) (values.fill (map (has_type types) parts) fields) h } in
    let e : other ≡ field = cc is in
    record { own = v; is = refl; typed = subst (λ (f : Field). Typed types f.ty v) e own }
fill-part types (v ∷ parts) (other ∷ fields) h (suc place) field is =
    let rest = fill-part types parts fields (and-right (has_type types v other.ty) (values.fill (map (has_type types) parts) fields) h) place field is in
    record { own = rest.own; is = rest.is; typed = rest.typed }

-- a field by its number and by its name
pub record FieldValue (types : Types) (whole : Known) (number : ℕ) (name : List ℕ) (t : Ty) (v : Value) : Type 0 where
  pub own : Value
  pub named : field_named whole name v ≡ Ok own
  pub numbered : field_at (field_number whole (ty.Rec number) name) v ≡ Ok own
  pub typed : Typed types t own

abbrev layer_named : Known → List ℕ → Value-F Value → Outcome Value
layer_named whole name w = elim w [ layer.Rec number parts ↦ part_named whole name number parts | _ ↦ Err Stuck ]

abbrev layer_parts : Value-F Value → Outcome (List Value)
layer_parts w = elim w [ layer.Rec number parts ↦ Ok parts | _ ↦ Err Stuck ]

module _ (types : Types) (whole : Known) (number : ℕ) (fields : List Field) (name : List ℕ) (field : Field) (at : fields_at whole number ≡ Some fields) (found : named field_name fields name ≡ Some field) where
  pub fields-in : fields_in whole (ty.Rec number) ≡ fields
  fields-in = ap (λ (o : Option (List Field)). unwrap_or o []) (fields-of-rec whole number ∙ at)

  pub field-type : field_type whole (ty.Rec number) name ≡ field.ty
  field-type = ap (λ (l : List Field). slot_type l name) fields-in ∙ ap (λ (o : Option Field). option_map_or (λ (f : Field). f.ty) o ty.Int) found

  pub field-value : values.fields_at types number ≡ Some fields → (v : Value) → Typed types (ty.Rec number) v → FieldValue types whole number name field.ty v
  field-value of v typed =
      let rec : IsRec types number fields (out-Value v) = rec-is types number fields of v typed in
      let p : Placed field_name fields name field = placed field_name fields name field found in
      let part : PartIs types rec.parts p.place field.ty = fill-part types rec.parts fields rec.fill p.place field p.at in
      let k : field_number whole (ty.Rec number) name ≡ p.place = ap (λ (l : List Field). slot_of l name) fields-in ∙ ap (λ (o : Option ℕ). unwrap_or o 0) p.found in
      record {
        own = part.own;
        named = ap (λ (w : Value-F Value). layer_named whole name w) rec.is
            ∙ ap (λ (o : Option (List Field)). present (place_of field_name (unwrap_or o []) name) >>= (λ place. present (slice_get rec.parts place))) at
            ∙ ap (λ (o : Option ℕ). present o >>= (λ place. present (slice_get rec.parts place))) p.found
            ∙ ap (λ (o : Option Value). present o) part.is;
        numbered = ap (λ (n : ℕ). field_at n v) k
            ∙ ap (λ (w : Value-F Value). layer_parts w >>= (λ parts. present (slice_get parts p.place))) rec.is
            ∙ ap (λ (o : Option Value). present o) part.is;
        typed = part.typed;
      }

-- what is known of a record is known of the whole file
pub whole-fields : (types : Types) (known whole : Known) → Within types known whole → (number : ℕ) (fields : List Field) → fields_at known number ≡ Some fields → fields_at whole number ≡ Some fields
whole-fields types known whole within number fields at =
    ap (λ (shapes : List Shape). option_and_then values.fields (slice_get shapes number)) (sym within.shapes) ∙ at
