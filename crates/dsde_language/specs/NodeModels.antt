-- What a whole model is resolved to: its tables, in text order.
use Rattle.std.specs.Prelude.{true, false, List, [], ◌∷◌, ◌++◌}
use Rattle.dsde_syntax.specs.declared.decl.Decl.{Decl}
use Rattle.dsde_syntax.specs.declared.decl.Decl.TheVariants as decl
use Rattle.dsde_syntax.specs.declared.decl.Model.{Model}
use Rattle.dsde_language.specs.declared.known.Known.{Known}
use Rattle.dsde_language.specs.declared.code.Code.{Code}
use Rattle.dsde_language.specs.declared.code.FnCode.{FnCode}
use Rattle.dsde_language.specs.declared.node_ids.ExprId.{ExprId}
use Rattle.dsde_language.specs.declared.ids.ModelId.{ModelId}
use Rattle.dsde_language.specs.declared.info.Info.{Info}
use Rattle.dsde_language.specs.declared.make.Make.{Make}
use Rattle.dsde_language.specs.Pieces.{Step, ◌>>=◌, Piece, give, over}
use Rattle.dsde_language.specs.DeclaredModels.{typed_fields, state_fields, port_fields, model_id, whole_of}
use Rattle.dsde_language.specs.Statements.{resolve_func, resolve_body, body_scope}
use Rattle.dsde_language.specs.DeclaredStructures.{place_of_items}
use Rattle.dsde_language.specs.Items.{resolve_all, resolve_items}

-- what declarations are resolved to: functions, and the body and the items of each model; an atomic
-- model has no items
pub record Parts : Type 0 where
  pub functions : List FnCode
  pub codes : List Code
  pub makes : List (List Make)
  pub top_model : ModelId
  pub top_args : List ExprId

abbrev pub no_parts : Parts
no_parts = record { functions = []; codes = []; makes = []; top_model = record { 0 = 0 }; top_args = [] }

-- a declaration, before those behind it
abbrev pub resolve_decl : Known → Decl → Step Parts → Step Parts
resolve_decl known (decl.Enum name variants) rest = rest
resolve_decl known (decl.Rec name fields) rest = rest
resolve_decl known (decl.Func name params result stmts value) rest =
    resolve_func known params stmts value >>= (λ own. rest >>= (λ parts. give (record parts { functions = own ∷ parts.functions })))
resolve_decl known (decl.Atomic at name params body) rest =
    resolve_body known params at body >>= (λ own.
    rest >>= (λ parts. give (record parts { codes = own ∷ parts.codes; makes = [] ∷ parts.makes })))
resolve_decl known (decl.Network at name params ports exec_at body items) rest =
    resolve_body known params exec_at body >>= (λ own.
    over (body_scope known params body) (resolve_items (place_of_items known ports body items) items) >>= (λ makes.
    rest >>= (λ parts. give (record parts { codes = own ∷ parts.codes; makes = makes ∷ parts.makes }))))
resolve_decl known (decl.Top at name args) rest =
    resolve_all known args >>= (λ values.
    rest >>= (λ parts. give (record parts { top_model = model_id known name.name; top_args = values })))

abbrev pub resolve_decls : Known → List Decl → Step Parts
resolve_decls known [] = give no_parts
resolve_decls known (own ∷ decls) = resolve_decl known own (resolve_decls known decls)

-- the whole of a model, from the first numbers on
abbrev pub resolved : Model → Piece Parts
resolved model = resolve_decls (whole_of model) model.decls [] (record { node = 0; block = 0; via = 0 })

-- what a model declares
abbrev pub with_info : Known → List Info → Decl → List Info
with_info known infos (decl.Atomic at name params body) = infos ++ record {
  name = name.name;
  at = at;
  network = false;
  params = typed_fields known params;
  ins = port_fields known false body.ports;
  outs = port_fields known true body.ports;
  boss_ins = [];
  boss_outs = [];
  states = state_fields known body.states;
} ∷ []
with_info known infos (decl.Network at name params ports exec_at body items) = infos ++ record {
  name = name.name;
  at = at;
  network = true;
  params = typed_fields known params;
  ins = port_fields known false ports;
  outs = port_fields known true ports;
  boss_ins = port_fields known false body.ports;
  boss_outs = port_fields known true body.ports;
  states = state_fields known body.states;
} ∷ []
with_info known infos _ = infos

abbrev pub infos_from : Known → List Info → List Decl → List Info
infos_from known infos [] = infos
infos_from known infos (own ∷ decls) = infos_from known (with_info known infos own) decls

abbrev pub infos_of : Model → List Info
infos_of model = infos_from (whole_of model) [] model.decls
