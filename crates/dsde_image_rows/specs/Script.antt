-- How the parts of a program are written in an image: the names of its models, and the texts of its values.
use Rattle.std.specs.Prelude.{ℕ, ◌≡◌, true, List, [], ◌∷◌, Option, Some, None, Ok, slice_get}
use Rattle.std.specs.Str.{IsAscii}
use Rattle.std.specs.List.{AllByRecursion}
use Rattle.dsde_syntax.specs.declared.decl.Model.{Model}
use Rattle.dsde_values.specs.declared.types.Field.{Field}
use Rattle.dsde_values.specs.declared.types.Ty.{Ty}
use Rattle.dsde_values.specs.declared.types.Types.{Types}
use Rattle.dsde_values.specs.declared.value.Value.{Value}
use Rattle.dsde_values.specs.Value.{spelling}
use Rattle.dsde_sim_movers.specs.given.language.ids_ModelId.{ModelId}
use Rattle.dsde_sim_movers.specs.given.language.DeclaredModels.{Own, owns_of, param_slots, state_slots, types_of}
use Rattle.dsde_sound_structures.specs.given.input_records.Reading.{value_of}
use Rattle.dsde_sim_movers.specs.given.language.Right.{IsRight}
use Rattle.dsde_words.specs.Words.{is_word}
use Rattle.dsde_sim_movers.specs.given.structure.plan_Plan.{Plan}
use Rattle.dsde_sim_movers.specs.given.formalism.System.{State}
use Rattle.dsde_sound_structures.specs.given.system.Program.{system}
use Rattle.dsde_sound_structures.specs.given.system.Fitting.{Fill, FitsArgs, FitsState}
use Rattle.dsde_image_rows.specs.Rows.{Script, texts}
use Rattle.dsde_image_rows.specs.Fits.{IsExact}

-- what is there, if nothing is left
abbrev pub if_whole : Option (Value × List ℕ) → Option Value
if_whole None = None
if_whole (Some (value, [])) = Some value
if_whole (Some (value, byte ∷ bytes)) = None

-- the value of a type that a whole text spells
abbrev pub whole_value : Types → Ty → List ℕ → Option Value
whole_value types ty text = if_whole (value_of types ty text)

abbrev pub before : Option Value → Option (List Value) → Option (List Value)
before (Some value) (Some values) = Some (value ∷ values)
before _ _ = None

-- the values of fields that texts spell, one each in their order
abbrev pub values_of : Types → List Field → List (List ℕ) → Option (List Value)
values_of types [] [] = Some []
values_of types (field ∷ fields) (text ∷ own) = before (whole_value types field.ty text) (values_of types fields own)
values_of types _ _ = None

-- what the declaration of a model says, by its number
abbrev pub name_in : Option Own → List ℕ
name_in None = []
name_in (Some own) = own.name.name

abbrev pub args_by : Model → Option Own → List (List ℕ) → Option (List Value)
args_by model None own = None
args_by model (Some found) own = values_of (types_of model) (param_slots model found) own

abbrev pub state_by : Model → Option Own → List (List ℕ) → Option (List Value)
state_by model None own = None
state_by model (Some found) own = values_of (types_of model) (state_slots model found) own

-- how a program is written
unfoldable pub script : Model → Script
script model = record {
  model = λ number. name_in (slice_get (owns_of model.decls) number.0);
  value = spelling (types_of model);
  args = λ number own. args_by model (slice_get (owns_of model.decls) number.0) own;
  state = λ number own. state_by model (slice_get (owns_of model.decls) number.0) own;
}

-- Texts that spell values of a program are the texts of these.
abbrev pub ScriptsAreExact : Type 0
ScriptsAreExact = (model : Model) → IsRight model → IsExact (script model)

-- Arguments and states that fit are read again from their texts.
abbrev pub ArgsReadAgain : Type 0
ArgsReadAgain = (model : Model) → IsRight model → (number : ModelId) (args : List Value) → FitsArgs model number.0 args → (script model).args number (texts (script model) args) ≡ Some args

abbrev pub StatesReadAgain : Type 0
StatesReadAgain = (model : Model) → IsRight model → (number : ModelId) (state : List Value) → FitsState model number.0 state → (script model).state number (texts (script model) state) ≡ Some state

-- The names of models are ASCII, and so are the texts of values that fit.
abbrev pub NamesAreAscii : Type 0
NamesAreAscii = (model : Model) → IsRight model → (number : ModelId) → IsAscii ((script model).model number)

abbrev pub TextsAreAscii : Type 0
TextsAreAscii = (model : Model) → IsRight model → (fields : List Field) (values : List Value) → Fill (types_of model) fields values → AllByRecursion IsAscii (texts (script model) values)

-- The components of a structure are called by words.
abbrev pub ComponentsAreCalled : Type 0
ComponentsAreCalled =
    (model : Model) → IsRight model → (number : ModelId) (args : List Value) (state : State) (plan : Plan)
    → ((system model).network number args).structure state ≡ Ok plan → AllByRecursion (λ entry. is_word entry.name.stem ≡ true) plan.entries
