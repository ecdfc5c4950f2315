-- What the types, the ports and the models of a file in which nothing is wrong are.
use Rattle.std.specs.Prelude.{◌≡◌, ◌<◌, ◌&&◌, ℕ, Bool, true, Some, length, slice_get}
use Rattle.std.specs.List.{list_all}
use Rattle.dsde_words.specs.Words.{is_word}
use Rattle.dsde_sim_tree.specs.given.syntax.decl_Model.{Model}
use Rattle.dsde_values.specs.declared.types.Def.{Def}
use Rattle.dsde_values.specs.declared.types.Shape.{Shape}
use Rattle.dsde_values.specs.declared.types.Shape.TheVariants as shape
use Rattle.dsde_values.specs.Value.{IsLawful}
use Rattle.dsde_input_records.specs.Record.{ArePorts}
use Rattle.dsde_sim_tree.specs.given.language.info_Info.{Info}
use Rattle.dsde_sim_tree.specs.given.language.DeclaredModels.{Own, owns_of, top_number, types_of}
use Rattle.dsde_sim_tree.specs.given.language.NodeModels.{infos_of}
use Rattle.dsde_sim_tree.specs.given.language.Right.{IsRight}

-- Types have identifiers as names, and enums have distinct identifiers as variants.
abbrev pub TypesAreLawful : Type 0
TypesAreLawful = (model : Model) → IsRight model → IsLawful (types_of model)

-- The in ports of each atomic model and network have distinct identifiers as names.
abbrev pub PortsAreLawful : Type 0
PortsAreLawful = (model : Model) → IsRight model → (number : ℕ) (info : Info) → slice_get (infos_of model) number ≡ Some info → ArePorts info.ins

-- The model that runs is one of the file's.
abbrev pub TopIsDeclared : Type 0
TopIsDeclared = (model : Model) → IsRight model → (top_number model).0 < length (infos_of model)

-- The names that a type has inside are identifiers: an enum's variants, a record's fields.
abbrev pub is_named_shape : Shape → Bool
is_named_shape (shape.Enum names) = list_all is_word names
is_named_shape (shape.Rec fields) = list_all (λ field. is_word field.name) fields

abbrev pub is_named_def : Def → Bool
is_named_def def = is_word def.name && is_named_shape def.shape

-- All names of types are identifiers.
abbrev pub TypesAreNamed : Type 0
TypesAreNamed = (model : Model) → IsRight model → list_all is_named_def (types_of model).defs ≡ true

abbrev pub is_named_own : Own → Bool
is_named_own own = is_word own.name.name

-- The names of atomic models and networks are identifiers.
abbrev pub ModelsAreNamed : Type 0
ModelsAreNamed = (model : Model) → IsRight model → list_all is_named_own (owns_of model.decls) ≡ true
