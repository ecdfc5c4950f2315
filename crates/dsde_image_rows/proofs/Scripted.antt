-- The script of a program: exact, read again, and ASCII.
use Rattle.std.proofs.Common.{◌≡◌, ◌↔◌, ℕ, zero, suc, Bool, true, false, ◌&&◌, List, [], ◌∷◌, ◌++◌, map, Option, Some, None, refl, ap, ◌∙◌}
use Rattle.std.specs.Prelude.{slice_get}
use Rattle.std.specs.List.{AllByRecursion, list_all}
use Rattle.std.specs.Str.{IsAscii}
use Rattle.dsde_syntax.specs.declared.decl.Model.{Model}
use Rattle.dsde_values.specs.declared.types.Field.{Field}
use Rattle.dsde_values.specs.declared.types.Ty.{Ty}
use Rattle.dsde_values.specs.declared.types.Types.{Types}
use Rattle.dsde_values.specs.declared.value.Value.{Value}
use Rattle.dsde_values.specs.Value.{HasType, spelling}
use Rattle.dsde_values.specs.Word.{goes_on}
use Rattle.dsde_sim_movers.specs.given.language.ids_ModelId.{ModelId}
use Rattle.dsde_sim_movers.specs.given.language.DeclaredModels.{Own, owns_of, param_slots, state_slots, types_of}
use Rattle.dsde_sound_structures.specs.given.input_records.Reading.{value_of}
use Rattle.dsde_sound_structures.specs.Lawful.{is_named_def, is_named_own}
use Rattle.dsde_sound_structures.specs.given.system.Fitting.{Fill, FitsArgs, FitsState}
use Rattle.dsde_image_rows.specs.Rows.{texts}
use Rattle.dsde_image_rows.specs.Fits.{IsExact}
use Rattle.dsde_image_rows.specs.Script.{name_in, args_by, state_by, script}
use Rattle.dsde_image_rows.proofs.Exact.{values-are, values-again}
use Rattle.dsde_image_rows.proofs.Ascii.{no-ascii, word-ascii, typed-ascii}

abbrev Spelled : Types → Type 0
Spelled types = (ty : Ty) (bytes : List ℕ) (value : Value) (rest : List ℕ) → (value_of types ty bytes ≡ Some (value, rest)) ↔ (HasType types value ty × (bytes ≡ spelling types value ++ rest) × (goes_on (spelling types value) rest ≡ false))

module _ (model : Model) (spelled : Spelled (types_of model)) where
  args-are : (found : Option Own) (own : List (List ℕ)) (values : List Value) → args_by model found own ≡ Some values → map (spelling (types_of model)) values ≡ own
  args-are None own values is = absurd (cc is)
  args-are (Some found) own values is = values-are (types_of model) spelled (param_slots model found) own values is

  state-are : (found : Option Own) (own : List (List ℕ)) (values : List Value) → state_by model found own ≡ Some values → map (spelling (types_of model)) values ≡ own
  state-are None own values is = absurd (cc is)
  state-are (Some found) own values is = values-are (types_of model) spelled (state_slots model found) own values is

  pub is-exact : IsExact (script model)
  unfolding script
  is-exact = record {
    args = λ number own values is. args-are (slice_get (owns_of model.decls) number.0) own values is;
    state = λ number own values is. state-are (slice_get (owns_of model.decls) number.0) own values is;
  }

  pub args-again : (number : ModelId) (args : List Value) → FitsArgs model number.0 args → (script model).args number (texts (script model) args) ≡ Some args
  unfolding script
  args-again number args fits =
      ap (λ (found : Option Own). args_by model found (map (spelling (types_of model)) args)) fits.found
      ∙ values-again (types_of model) spelled (param_slots model fits.own) args fits.fill

  pub state-again : (number : ModelId) (state : List Value) → FitsState model number.0 state → (script model).state number (texts (script model) state) ≡ Some state
  unfolding script
  state-again number state fits =
      ap (λ (found : Option Own). state_by model found (map (spelling (types_of model)) state)) fits.found
      ∙ values-again (types_of model) spelled (state_slots model fits.own) state fits.fill

-- ---- ASCII

both : (a b : Bool) → (a && b) ≡ true → (a ≡ true) × (b ≡ true)
both true true is = (refl, refl)
both true false is = absurd (cc is)
both false b is = absurd (cc is)

name-at : (owns : List Own) (number : ℕ) → list_all is_named_own owns ≡ true → IsAscii (name_in (slice_get owns number))
name-at [] number named = no-ascii
name-at (own ∷ owns) zero named = word-ascii own.name.name (both (is_named_own own) (list_all is_named_own owns) named).0
name-at (own ∷ owns) (suc number) named = name-at owns number (both (is_named_own own) (list_all is_named_own owns) named).1

pub name-ascii : (model : Model) → list_all is_named_own (owns_of model.decls) ≡ true → (number : ModelId) → IsAscii ((script model).model number)
unfolding script
name-ascii model named number = name-at (owns_of model.decls) number.0 named

values-ascii : (types : Types) → list_all is_named_def types.defs ≡ true → (fields : List Field) (values : List Value) → Fill types fields values → AllByRecursion IsAscii (map (spelling types) values)
values-ascii types named [] [] fill = tt
values-ascii types named [] (value ∷ values) fill = absurd fill
values-ascii types named (field ∷ fields) [] fill = absurd fill
values-ascii types named (field ∷ fields) (value ∷ values) fill = (typed-ascii types named value field.ty fill.0.has, values-ascii types named fields values fill.1)

pub texts-ascii : (model : Model) → list_all is_named_def (types_of model).defs ≡ true → (fields : List Field) (values : List Value) → Fill (types_of model) fields values → AllByRecursion IsAscii (texts (script model) values)
unfolding script
texts-ascii model named fields values fill = values-ascii (types_of model) named fields values fill
