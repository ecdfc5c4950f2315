-- What a file declares, by its text: types, and models with their parameters and ports. Of two items
-- of one name in a table the first counts.
use Rattle.std.specs.Prelude.{ℕ, Bool, true, false, if◌then◌else◌, List, [], ◌∷◌, ◌++◌, map, Option, Some, None, slice_get}
use Rattle.std.specs.List.{list_any}
use Rattle.std.specs.Option.{option_map_or}
use Rattle.std.specs.Str.{bytes_eq}
use Rattle.dsde_names.specs.Table.{place_of, is_among}
use Rattle.dsde_syntax.specs.declared.id.Id.{Id}
use Rattle.dsde_syntax.specs.declared.type_name.TypeName.{TypeName}
use Rattle.dsde_syntax.specs.declared.type_name.TypeName.TheOpen.{TypeName-F}
use Rattle.dsde_syntax.specs.declared.type_name.TypeName.TheFolds.{fold-TypeName}
use Rattle.dsde_syntax.specs.declared.decl.Decl.{Decl}
use Rattle.dsde_syntax.specs.declared.decl.Decl.TheVariants as decl
use Rattle.dsde_syntax.specs.declared.decl.Typed.{Typed}
use Rattle.dsde_syntax.specs.declared.decl.PortDecl.{PortDecl}
use Rattle.dsde_values.specs.declared.types.Field.{Field}
use Rattle.dsde_values.specs.declared.types.Ty.{Ty}
use Rattle.dsde_values.specs.declared.types.Ty.TheVariants as ty
use Rattle.dsde_values.specs.declared.types.Shape.{Shape}
use Rattle.dsde_values.specs.declared.types.Shape.TheVariants as shape
use Rattle.dsde_language.specs.declared.known.Known.{Known}
use Rattle.dsde_language.specs.declared.seen.Binding.{Binding}
use Rattle.dsde_language.specs.declared.signatures.Family.{Family}
use Rattle.dsde_language.specs.declared.signatures.Func.{Func}
use Rattle.dsde_language.specs.declared.signatures.ModelSig.{ModelSig}
use Rattle.dsde_language.specs.declared.signatures.Port.{Port}
use Rattle.dsde_language.specs.declared.signatures.TypeWord.{TypeWord}
use Rattle.dsde_language.specs.Types.{depths_from}

-- the names of what stands in tables
abbrev pub type_word : TypeWord → List ℕ
type_word own = own.name

abbrev pub field_name : Field → List ℕ
field_name field = field.name

abbrev pub port_name : Port → List ℕ
port_name port = port.name

abbrev pub model_name : ModelSig → List ℕ
model_name model = model.name

abbrev pub func_name : Func → List ℕ
func_name func = func.name

abbrev pub family_name : Family → List ℕ
family_name family = family.name

abbrev pub binding_name : Binding → List ℕ
binding_name bound = bound.name

-- a table with an item behind the others, unless one has its name
abbrev pub added : {T : Type 0} → (T → List ℕ) → List T → T → List T
added name_of items item = if is_among name_of items (name_of item) then items else items ++ item ∷ []

-- names with one more, unless it is among them
abbrev pub with_name : List (List ℕ) → List ℕ → List (List ℕ)
with_name names name = if list_any (λ own. bytes_eq own name) names then names else names ++ name ∷ []

-- names with those of identifiers
abbrev pub with_names : List (List ℕ) → List Id → List (List ℕ)
with_names names [] = names
with_names names (id ∷ ids) = with_names (with_name names id.name) ids

abbrev pub with_word : List TypeWord → Bool → Id → List TypeWord
with_word words is_enum id = added type_word words (record { name = id.name; is_enum = is_enum })

-- the identifiers of the types that are declared, in text order
abbrev pub declared_word : List TypeWord → Decl → List TypeWord
declared_word words (decl.Enum name variants) = with_word words true name
declared_word words (decl.Rec name fields) = with_word words false name
declared_word words _ = words

abbrev pub declared_words : List TypeWord → List Decl → List TypeWord
declared_words words [] = words
declared_words words (own ∷ decls) = declared_words (declared_word words own) decls

-- the identifier in a type, if there is one
abbrev pub used_step : TypeName-F (Option Id) → Option Id
used_step (TypeName-F.Int at) = None
used_step (TypeName-F.Bool at) = None
used_step (TypeName-F.Named id) = Some id
used_step (TypeName-F.List at part) = part
used_step (TypeName-F.Opt at part) = part

abbrev pub used_in : TypeName → Option Id
used_in = fold-TypeName (Option Id) used_step

-- identifiers with the one in a type
abbrev pub used_word : List TypeWord → TypeName → List TypeWord
used_word words own = elim (used_in own) [ None ↦ words | Some id ↦ with_word words false id ]

abbrev pub used_typed : List TypeWord → List Typed → List TypeWord
used_typed words [] = words
used_typed words (typed ∷ rest) = used_typed (used_word words typed.ty) rest

abbrev pub used_ports : List TypeWord → List PortDecl → List TypeWord
used_ports words [] = words
used_ports words (port ∷ ports) = used_ports (used_word words port.ty) ports

-- identifiers with those that fields, parameters and ports of models name, in text order
abbrev pub used_decl : List TypeWord → Decl → List TypeWord
used_decl words (decl.Rec name fields) = used_typed words fields
used_decl words (decl.Atomic at name params body) = used_ports (used_typed words params) body.ports
used_decl words (decl.Network at name params ports exec_at body items) = used_ports (used_typed words params) ports
used_decl words _ = words

abbrev pub used_words : List TypeWord → List Decl → List TypeWord
used_words words [] = words
used_words words (own ∷ decls) = used_words (used_decl words own) decls

-- the identifiers of types: those that are declared, and then the others that are named
abbrev pub type_words : List Decl → List TypeWord
type_words decls = used_words (declared_words [] decls) decls

-- the type with a number: an enum, where its identifier is declared as one
abbrev pub numbered : ℕ → Option TypeWord → Ty
numbered number own = if option_map_or (λ (own : TypeWord). own.is_enum) own false then ty.Enum number else ty.Rec number

-- A type by its text alone: its identifier may be declared later, or not at all.
abbrev pub text_type : List TypeWord → Id → Ty
text_type words id =
    elim (place_of type_word words id.name) [ None ↦ ty.Rec 0 | Some number ↦ numbered number (slice_get words number) ]

abbrev pub text_step : List TypeWord → TypeName-F Ty → Ty
text_step words (TypeName-F.Int at) = ty.Int
text_step words (TypeName-F.Bool at) = ty.Bool
text_step words (TypeName-F.Named id) = text_type words id
text_step words (TypeName-F.List at part) = ty.List part
text_step words (TypeName-F.Opt at part) = ty.Opt part

abbrev pub by_text : List TypeWord → TypeName → Ty
by_text words = fold-TypeName Ty (text_step words)

-- the fields of a record
abbrev pub text_fields : List TypeWord → List Field → List Typed → List Field
text_fields words fields [] = fields
text_fields words fields (typed ∷ rest) =
    text_fields words (added field_name fields (record { name = typed.name.name; ty = by_text words typed.ty })) rest

-- the types that are declared, in text order
abbrev pub with_shape : List TypeWord → List Shape → Decl → List Shape
with_shape words shapes (decl.Enum name variants) = shapes ++ shape.Enum (with_names [] variants) ∷ []
with_shape words shapes (decl.Rec name fields) = shapes ++ shape.Rec (text_fields words [] fields) ∷ []
with_shape words shapes _ = shapes

abbrev pub shapes_from : List TypeWord → List Shape → List Decl → List Shape
shapes_from words shapes [] = shapes
shapes_from words shapes (own ∷ decls) = shapes_from words (with_shape words shapes own) decls

abbrev pub text_params : List TypeWord → List Typed → List Ty
text_params words = map (λ (param : Typed). by_text words param.ty)

abbrev pub text_ports : List TypeWord → List Port → List PortDecl → List Port
text_ports words ports [] = ports
text_ports words ports (port ∷ rest) =
    text_ports words (added port_name ports (record { out = port.out; name = port.name.name; ty = by_text words port.ty })) rest

-- the models of a file, in text order
abbrev pub with_model : List TypeWord → List ModelSig → Decl → List ModelSig
with_model words models (decl.Atomic at name params body) =
    added model_name models (record { name = name.name; params = text_params words params; ports = text_ports words [] body.ports })
with_model words models (decl.Network at name params ports exec_at body items) =
    added model_name models (record { name = name.name; params = text_params words params; ports = text_ports words [] ports })
with_model words models _ = models

abbrev pub models_from : List TypeWord → List ModelSig → List Decl → List ModelSig
models_from words models [] = models
models_from words models (own ∷ decls) = models_from words (with_model words models own) decls

-- what is known before the first declaration
abbrev pub known_of : List Decl → Known
known_of decls =
    let words = type_words decls in
    let types = shapes_from words [] decls in
    record {
      words = words;
      types = types;
      depths = depths_from [] types;
      models = models_from words [] decls;
      before = [];
      funcs = [];
    }
