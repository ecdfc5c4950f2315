-- Names that have slots, and their values.
use Rattle.std.proofs.Common.{◌≡◌, ℕ, zero, suc, List, [], ◌∷◌, Option, Some, None, Ok, refl, sym, ◌∙◌, ap, subst, slice_get}
use Rattle.std.specs.Prelude.{unwrap_or}
use Rattle.std.specs.Option.{option_map_or}
use Rattle.dsde_language.specs.given.values.types_Field.{Field}
use Rattle.dsde_language.specs.given.values.types_Ty.{Ty}
use Rattle.dsde_language.specs.given.values.types_Ty_TheVariants as ty
use Rattle.dsde_language.specs.given.values.types_Types.{Types}
use Rattle.dsde_language.specs.given.values.value_Value.{Value}
use Rattle.dsde_language.specs.RuleTables.{field_name}
use Rattle.dsde_language.specs.declared.node.Node.TheVariants as node
use Rattle.dsde_language.specs.Names.{slot_of}
use Rattle.dsde_language.specs.Typing.{slot_type}
use Rattle.dsde_language.specs.Outcome.{Outcome, ◌>>=◌, present}
use Rattle.dsde_language.specs.Meaning.{Var, Vars, value_named}
use Rattle.dsde_language.specs.Typed.{Typed, Sound, Fits, values_in}
use Rattle.dsde_language.specs.Scopes.{Slotted}
use Rattle.dsde_sound_expressions.specs.lemmas.Places.{Placed, placed}
use Rattle.dsde_sound_expressions.specs.lemmas.Fitting.{fits-place}
use Rattle.dsde_language.specs.Steps.{above}
use Rattle.dsde_sound_expressions.proofs.At.{Ground, At, leaf-at}

-- the variable of a slot
pub record Holds (types : Types) (vars : Vars) (place : ℕ) (t : Ty) : Type 0 where
  pub var : Var
  pub is : slice_get vars place ≡ Some var
  pub slot : slice_get (values_in vars) place ≡ Some var.value
  pub typed : Typed types t var.value

pub holds-at : (types : Types) (vars : Vars) (slots : List Field) → Fits types vars slots → (place : ℕ) (field : Field) → slice_get slots place ≡ Some field → Holds types vars place field.ty
holds-at types [] [] fits place field is = cc
holds-at types [] (other ∷ slots) fits place field is = absurd fits
holds-at types (var ∷ vars) [] fits place field is = absurd fits
holds-at types (var ∷ vars) (other ∷ slots) fits zero field is =
    let same : other ≡ field = cc is in
    record { var = var; is = refl; slot = refl; typed = subst (λ (f : Field). Typed types f.ty var.value) same fits.1 }
holds-at types (var ∷ vars) (other ∷ slots) fits (suc place) field is =
    let own = holds-at types vars slots fits.2 place field is in record { var = own.var; is = own.is; slot = own.slot; typed = own.typed }

-- the value of a name
pub record Valued (types : Types) (vars : Vars) (slots : List Field) (name : List ℕ) (t : Ty) : Type 0 where
  pub own : Value
  pub named : value_named vars name ≡ Ok own
  pub slot : present (slice_get (values_in vars) (slot_of slots name)) ≡ Ok own
  pub typed : Typed types t own

pub valued : (types : Types) (vars : Vars) (slots : List Field) (name : List ℕ) (t : Ty) → Slotted slots name t → Fits types vars slots → Valued types vars slots name t
valued types vars slots name t s fits =
    let p : Placed field_name slots name s.field = placed field_name slots name s.field s.found in
    let h : Holds types vars p.place s.field.ty = holds-at types vars slots fits p.place s.field p.at in
    record {
      own = h.var.value;
      named =
          ap (λ (o : Option ℕ). present (elim o [ None ↦ None | Some place ↦ slice_get vars place ]) >>= (λ (var : Var). Ok var.value)) (fits-place types vars slots name fits ∙ p.found)
          ∙ ap (λ (o : Option Var). present o >>= (λ (var : Var). Ok var.value)) h.is;
      slot = ap (λ (o : Option ℕ). present (slice_get (values_in vars) (unwrap_or o 0))) p.found ∙ ap (λ (o : Option Value). present o) h.slot;
      typed = subst (λ (u : Ty). Typed types u h.var.value) s.of h.typed;
    }

pub slot-type-is : (slots : List Field) (name : List ℕ) (t : Ty) → Slotted slots name t → slot_type slots name ≡ t
slot-type-is slots name t s = ap (λ (o : Option Field). option_map_or (λ (field : Field). field.ty) o ty.Int) s.found ∙ s.of

-- a name by its slot
pub slot-at : (g : Ground) (kind : List Field → Ty) (name : List ℕ) (slots : List Field) (t : Ty) → kind slots ≡ t → Slotted slots name t
    → At g (record { ty = kind; nodes = λ scope start. node.Slot (slot_of scope name) ∷ [] }) (λ vars. value_named vars name) slots t (above 0)
slot-at g kind name slots t has s =
    leaf-at g (record { ty = kind; nodes = λ scope start. node.Slot (slot_of scope name) ∷ [] }) (λ vars. value_named vars name) slots t (node.Slot (slot_of slots name)) (λ start. refl) has
    (λ vars fits. let own = valued g.types vars slots name t s fits in subst (λ (x : Outcome Value). Sound g.total (Typed g.types t) x) (sym own.named) own.typed)
    (λ vars all fits. let own = valued g.types vars slots name t s fits in own.slot ∙ sym own.named)
