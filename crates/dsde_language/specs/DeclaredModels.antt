-- The atomic models and networks that a file declares, each with its parameters, its ports and its
-- body, by its number in text order; and the one that runs.
use Rattle.std.specs.Prelude.{ℕ, Bool, true, false, not, if◌then◌else◌, List, [], ◌∷◌, ◌++◌, map, Option, Some, None, unwrap_or, slice_get}
use Rattle.std.specs.Option.{option_map_or}
use Rattle.dsde_names.specs.Table.{place_of}
use Rattle.dsde_syntax.specs.declared.id.Id.{Id}
use Rattle.dsde_syntax.specs.declared.expr.Expr.{Expr}
use Rattle.dsde_syntax.specs.declared.decl.Body.{Body}
use Rattle.dsde_syntax.specs.declared.decl.Decl.{Decl}
use Rattle.dsde_syntax.specs.declared.decl.Decl.TheVariants as decl
use Rattle.dsde_syntax.specs.declared.decl.Model.{Model}
use Rattle.dsde_syntax.specs.declared.decl.PortDecl.{PortDecl}
use Rattle.dsde_syntax.specs.declared.decl.StateDecl.{StateDecl}
use Rattle.dsde_syntax.specs.declared.decl.Typed.{Typed}
use Rattle.dsde_values.specs.declared.types.Def.{Def}
use Rattle.dsde_values.specs.declared.types.Field.{Field}
use Rattle.dsde_values.specs.declared.types.Shape.{Shape}
use Rattle.dsde_values.specs.declared.types.Types.{Types}
use Rattle.dsde_language.specs.declared.known.Known.{Known}
use Rattle.dsde_language.specs.declared.signatures.TypeWord.{TypeWord}
use Rattle.dsde_language.specs.RuleTables.{added, by_text, func_name, known_of, model_name, text_params}
use Rattle.dsde_language.specs.declared.ids.ModelId.{ModelId}

-- the functions of a file by their text, each at its number
abbrev pub with_func : Known → Decl → Known
with_func known (decl.Func name params result stmts value) =
    record known { funcs = added func_name known.funcs (record { name = name.name; params = text_params known.words params; result = by_text known.words result; height = 0 }) }
with_func known _ = known

abbrev pub with_funcs : Known → List Decl → Known
with_funcs known [] = known
with_funcs known (own ∷ decls) = with_funcs (with_func known own) decls

-- all that is known of a file by its text
abbrev pub whole_of : Model → Known
whole_of model = with_funcs (known_of model.decls) model.decls

-- the table of types
abbrev pub defs_from : List TypeWord → List Shape → List Def
defs_from (word ∷ words) (own ∷ shapes) = record { name = word.name; shape = own } ∷ defs_from words shapes
defs_from _ _ = []

abbrev pub types_of : Model → Types
types_of model = record { defs = defs_from (whole_of model).words (whole_of model).types }

-- names with their types, by their text
abbrev pub typed_fields : Known → List Typed → List Field
typed_fields known = map (λ (typed : Typed). record { name = typed.name.name; ty = by_text known.words typed.ty })

abbrev pub state_fields : Known → List StateDecl → List Field
state_fields known = map (λ (state : StateDecl). record { name = state.name.name; ty = by_text known.words state.ty })

-- the ports of one direction
abbrev pub port_fields : Known → Bool → List PortDecl → List Field
port_fields known out [] = []
port_fields known out (port ∷ ports) =
    if (if out then port.out else not port.out)
    then record { name = port.name.name; ty = by_text known.words port.ty } ∷ port_fields known out ports
    else port_fields known out ports

-- an atomic model, or a network with the body of its executive; its own ports
pub record Own : Type 0 where
  pub name : Id
  pub at : ℕ
  pub network : Bool
  pub params : List Typed
  pub ports : List PortDecl
  pub start_at : ℕ
  pub body : Body

abbrev pub own_of : Decl → List Own
own_of (decl.Atomic at name params body) =
    record { name = name; at = at; network = false; params = params; ports = body.ports; start_at = at; body = body } ∷ []
own_of (decl.Network at name params ports exec_at body items) =
    record { name = name; at = at; network = true; params = params; ports = ports; start_at = exec_at; body = body } ∷ []
own_of _ = []

-- the atomic models and networks of a file, in text order
abbrev pub owns_of : List Decl → List Own
owns_of [] = []
owns_of (own ∷ decls) = own_of own ++ owns_of decls

-- the one with a number
abbrev pub own_at : Model → ModelId → Option Own
own_at model number = slice_get (owns_of model.decls) number.0

-- its parameters and its state variables
abbrev pub param_slots : Model → Own → List Field
param_slots model own = typed_fields (whole_of model) own.params

abbrev pub state_slots : Model → Own → List Field
state_slots model own = state_fields (whole_of model) own.body.states

-- its ports as those see them that link to it, and those of its body
abbrev pub own_ins : Model → Own → List Field
own_ins model own = port_fields (whole_of model) false own.ports

abbrev pub own_outs : Model → Own → List Field
own_outs model own = port_fields (whole_of model) true own.ports

abbrev pub body_ins : Model → Own → List Field
body_ins model own = port_fields (whole_of model) false own.body.ports

abbrev pub body_outs : Model → Own → List Field
body_outs model own = port_fields (whole_of model) true own.body.ports

-- the number of the model with a name
abbrev pub model_number : Known → List ℕ → ℕ
model_number known name = unwrap_or (place_of model_name known.models name) 0

abbrev pub model_id : Known → List ℕ → ModelId
model_id known name = record { 0 = model_number known name }

-- the identifier and the arguments of `top`
pub record TopOf : Type 0 where
  pub name : List ℕ
  pub args : List Expr

abbrev pub top_in : List Decl → Option TopOf
top_in [] = None
top_in (decl.Top at name args ∷ decls) = Some (record { name = name.name; args = args })
top_in (_ ∷ decls) = top_in decls

-- the number of the model that runs
abbrev pub top_number : Model → ModelId
top_number model = option_map_or (λ (top : TopOf). model_id (whole_of model) top.name) (top_in model.decls) (record { 0 = 0 })

-- its in ports and its out ports
abbrev pub top_ins : Model → List Field
top_ins model = option_map_or (own_ins model) (own_at model (top_number model)) []

abbrev pub top_outs : Model → List Field
top_outs model = option_map_or (own_outs model) (own_at model (top_number model)) []
