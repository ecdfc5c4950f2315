-- What the declarations of a program say of the texts of its models.
use Rattle.std.proofs.Common.{◌≡◌, ℕ, List, [], ◌∷◌, length, Option, Some, None, slice_get, ◌<◌, refl, sym, ap, subst, ◌∙◌}
use Rattle.std.specs.Prelude.{Result, Ok, Err, IfOk, IfSome}
use Rattle.dsde_lists.specs.declared.memory.Memory.{Memory}
use Rattle.dsde_syntax.specs.declared.decl.Model.{Model}
use Rattle.dsde_values.specs.declared.types.Field.{Field}
use Rattle.dsde_values.specs.declared.types.Ty.{Ty}
use Rattle.dsde_values.specs.declared.types.Types.{Types}
use Rattle.dsde_values.specs.declared.value.Value.{Value}
use Rattle.dsde_values.specs.Value.{HasType}
use Rattle.dsde_values.proofs.Typed.{HasType-is}
use Rattle.dsde_language.specs.declared.ids.ModelId.{ModelId}
use Rattle.dsde_language.specs.DeclaredModels.{Own, owns_of, types_of}
use Rattle.dsde_language.specs.declared.info.Info.{Info}
use Rattle.dsde_language.specs.NodeModels.{infos_of}
use Rattle.dsde_program_layout.specs.Declared.{IsDeclared, Declares, InfosAreDeclared}
use Rattle.dsde_input_records.specs.Reading.{value_of}
use Rattle.dsde_sound_structures.specs.given.system.Fitting.{Fill, FitsArgs, FitsState}
use Rattle.dsde_image_rows.specs.Script.{if_whole, whole_value, before, values_of, name_in, args_by, state_by, script}
use Rattle.dsde_image_rows.proofs.WholeTexts.{Spelled}

some-is : {A : Type 0} (x y : A) → (let own : Option A = Some x in own ≡ Some y) → x ≡ y
some-is x y is = cc

-- ---- values that are read have their types

module _ (types : Types) (spelled : Spelled types) where
  whole-typed : (ty : Ty) (text : List ℕ) (value : Value) → whole_value types ty text ≡ Some value → Fill types (record { name = []; ty = ty } ∷ []) (value ∷ [])
  whole-typed ty text value is = by-found (value_of types ty text) refl is
    where
      by-found : (found : Option (Value × List ℕ)) → value_of types ty text ≡ found → if_whole found ≡ Some value → Fill types (record { name = []; ty = ty } ∷ []) (value ∷ [])
      by-found None at is = absurd (cc is)
      by-found (Some (own, [])) at is =
          let same : own ≡ value = some-is own value is in
          (record { has = (HasType-is types value ty).0 (subst (λ (v : Value). HasType types v ty) same ((spelled ty text own []).0 at).0) }, tt)
      by-found (Some (own, byte ∷ rest)) at is = absurd (cc is)

  record Before (first : Option Value) (later : Option (List Value)) (values : List Value) : Type 0 where
    value : Value
    rest : List Value
    first_is : first ≡ Some value
    later_is : later ≡ Some rest
    are : value ∷ rest ≡ values

  before-is : (first : Option Value) (later : Option (List Value)) (values : List Value) → before first later ≡ Some values → Before first later values
  before-is (Some value) (Some rest) values is = record { value = value; rest = rest; first_is = refl; later_is = refl; are = some-is (value ∷ rest) values is }
  before-is (Some value) None values is = absurd (cc is)
  before-is None later values is = absurd (cc is)

  pub values-typed : (fields : List Field) (texts : List (List ℕ)) (values : List Value) → values_of types fields texts ≡ Some values → Fill types fields values
  values-typed [] [] values is = subst (Fill types []) (some-is [] values is) tt
  values-typed [] (text ∷ texts) values is = absurd (cc is)
  values-typed (field ∷ fields) [] values is = absurd (cc is)
  values-typed (field ∷ fields) (text ∷ texts) values is =
      let parts = before-is (whole_value types field.ty text) (values_of types fields texts) values is in
      subst (Fill types (field ∷ fields)) parts.are ((whole-typed field.ty text parts.value parts.first_is).0, values-typed fields texts parts.rest parts.later_is)

module _ (declared : InfosAreDeclared) (model : Model) (number : ModelId) (info : Info) (at : Some info ≡ slice_get (infos_of model) number.0) where
  record Found : Type 0 where
    own : Own
    found : slice_get (owns_of model.decls) number.0 ≡ Some own
    is : IsDeclared model own info

  found-by : (found : Option Own) → slice_get (owns_of model.decls) number.0 ≡ found → Declares model found (Some info) → Found
  found-by None is declares = absurd declares
  found-by (Some own) is declares = record { own = own; found = is; is = declares }

  found : Found
  found = found-by (slice_get (owns_of model.decls) number.0) refl (subst (Declares model (slice_get (owns_of model.decls) number.0)) (sym at) (declared model number.0))

  pub name-is : (script model).model number ≡ info.name
  unfolding script
  name-is = ap name_in found.found ∙ sym found.is.name

  args-are : (texts : List (List ℕ)) → (script model).args number texts ≡ values_of (types_of model) info.params texts
  unfolding script
  args-are texts = ap (λ (own : Option Own). args_by model own texts) found.found ∙ ap (λ (fields : List Field). values_of (types_of model) fields texts) (sym found.is.params)

  state-are : (texts : List (List ℕ)) → (script model).state number texts ≡ values_of (types_of model) info.states texts
  unfolding script
  state-are texts = ap (λ (own : Option Own). state_by model own texts) found.found ∙ ap (λ (fields : List Field). values_of (types_of model) fields texts) (sym found.is.states)

  abbrev Answer : Type 0
  Answer = Result (Option (List Value)) Memory

  pub args-ok : (result : Answer) (types : Types) (fields : List Field) (texts : List (List ℕ)) → types ≡ types_of model → fields ≡ info.params →
      IfOk result (λ found. found ≡ values_of types fields texts) → IfOk result (λ found. found ≡ (script model).args number texts)
  args-ok (Ok own) types fields texts types_are fields_are is =
      is ∙ ap (λ (t : Types). values_of t fields texts) types_are ∙ ap (λ (f : List Field). values_of (types_of model) f texts) fields_are ∙ sym (args-are texts)
  args-ok (Err why) types fields texts types_are fields_are is = tt

  pub state-ok : (result : Answer) (types : Types) (fields : List Field) (texts : List (List ℕ)) → types ≡ types_of model → fields ≡ info.states →
      IfOk result (λ found. found ≡ values_of types fields texts) → IfOk result (λ found. found ≡ (script model).state number texts)
  state-ok (Ok own) types fields texts types_are fields_are is =
      is ∙ ap (λ (t : Types). values_of t fields texts) types_are ∙ ap (λ (f : List Field). values_of (types_of model) f texts) fields_are ∙ sym (state-are texts)
  state-ok (Err why) types fields texts types_are fields_are is = tt

  module _ (spelled : Spelled (types_of model)) (below : number.0 < length (infos_of model)) where
    pub args-fit : (result : Answer) (types : Types) (fields : List Field) (texts : List (List ℕ)) → types ≡ types_of model → fields ≡ info.params →
        IfOk result (λ found. found ≡ values_of types fields texts) → IfOk result (λ found. IfSome found (FitsArgs model number.0))
    args-fit (Err why) types fields texts types_are fields_are is = tt
    args-fit (Ok None) types fields texts types_are fields_are is = tt
    args-fit (Ok (Some values)) types fields texts types_are fields_are is = record {
      below = below;
      own = found.own;
      found = found.found;
      fill = subst (λ (f : List Field). Fill (types_of model) f values) (fields_are ∙ found.is.params)
          (values-typed (types_of model) spelled fields texts values (ap (λ (t : Types). values_of t fields texts) (sym types_are) ∙ sym is));
    }

    pub state-fits : (result : Answer) (types : Types) (fields : List Field) (texts : List (List ℕ)) → types ≡ types_of model → fields ≡ info.states →
        IfOk result (λ found. found ≡ values_of types fields texts) → IfOk result (λ found. IfSome found (FitsState model number.0))
    state-fits (Err why) types fields texts types_are fields_are is = tt
    state-fits (Ok None) types fields texts types_are fields_are is = tt
    state-fits (Ok (Some values)) types fields texts types_are fields_are is = record {
      own = found.own;
      found = found.found;
      fill = subst (λ (f : List Field). Fill (types_of model) f values) (fields_are ∙ found.is.states)
          (values-typed (types_of model) spelled fields texts values (ap (λ (t : Types). values_of t fields texts) (sym types_are) ∙ sym is));
    }
