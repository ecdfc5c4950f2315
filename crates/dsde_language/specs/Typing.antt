-- The types of expressions in which nothing is wrong, and the numbers of what they name. Each is
-- found from what the file says alone; where something is wrong it is of no account.
use Rattle.std.specs.Prelude.{ℕ, List, [], ◌∷◌, unwrap_or}
use Rattle.std.specs.Option.{option_map_or}
use Rattle.dsde_names.specs.Table.{place_of, named}
use Rattle.dsde_syntax.specs.given.words.key_Key.{Key}
use Rattle.dsde_values.specs.declared.types.Ty.{Ty, out-Ty}
use Rattle.dsde_values.specs.declared.types.Ty.TheOpen as layer
use Rattle.dsde_values.specs.declared.types.Ty.TheVariants as ty
use Rattle.dsde_values.specs.declared.types.Field.{Field}
use Rattle.dsde_language.specs.declared.builtin.Part.{Part}
use Rattle.dsde_language.specs.declared.builtin.Part.TheVariants as part
use Rattle.dsde_language.specs.declared.known.Known.{Known}
use Rattle.dsde_language.specs.declared.signatures.Func.{Func}
use Rattle.dsde_language.specs.RuleTables.{field_name, func_name}
use Rattle.dsde_language.specs.Judge.{fields_of, given_type, row_of}
use Rattle.dsde_language.specs.Names.{Scope, slot_of}

abbrev pub slot_type : Scope → List ℕ → Ty
slot_type scope name = option_map_or (λ (field : Field). field.ty) (named field_name scope name) ty.Int

-- the type of a list's items, and of what an option holds
abbrev pub item_in : Ty → Ty
item_in own = elim (out-Ty own) [ layer.List inner ↦ inner | _ ↦ ty.Int ]

abbrev pub held_in : Ty → Ty
held_in own = elim (out-Ty own) [ layer.Opt inner ↦ inner | _ ↦ ty.Int ]

-- the number of a field of a record, and its type
abbrev pub fields_in : Known → Ty → List Field
fields_in known own = unwrap_or (fields_of known own) []

abbrev pub field_number : Known → Ty → List ℕ → ℕ
field_number known own name = slot_of (fields_in known own) name

abbrev pub field_type : Known → Ty → List ℕ → Ty
field_type known own name = slot_type (fields_in known own) name

-- the number of a function, and the type of its result
abbrev pub func_number : Known → List ℕ → ℕ
func_number known name = unwrap_or (place_of func_name known.funcs name) 0

abbrev pub func_type : Known → List ℕ → Ty
func_type known name = option_map_or (λ (func : Func). func.result) (named func_name known.funcs name) ty.Int

-- what T is by the first argument of a builtin, whose type this is
abbrev pub first_type : List Part → Ty → Ty
first_type (part.Any ∷ parts) own = own
first_type (part.List ∷ parts) own = item_in own
first_type (part.Opt ∷ parts) own = held_in own
first_type _ own = ty.Int

-- the type of what a builtin gives, where its first argument has this type
abbrev pub builtin_type : Key → Ty → Ty
builtin_type which own = given_type (row_of which).gives (first_type (row_of which).parts own)
