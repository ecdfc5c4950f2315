-- How a whole model is laid into tables: what the code does, step by step.
use Rattle.std.specs.Prelude.{List, [], ◌∷◌}
use Rattle.dsde_language.specs.given.syntax.decl_Decl.{Decl}
use Rattle.dsde_language.specs.given.syntax.decl_Decl_TheVariants as decl
use Rattle.dsde_language.specs.given.syntax.decl_Model.{Model}
use Rattle.dsde_language.specs.declared.known.Known.{Known}
use Rattle.dsde_language.specs.DeclaredStructures.{place_of_items}
use Rattle.dsde_language.specs.DeclaredModels.{whole_of, model_id}
use Rattle.dsde_language.specs.NodeModels.{Parts, no_parts}
use Rattle.dsde_language.specs.declared.tables.Tables.{Tables}
use Rattle.dsde_program_layout.specs.LayPieces.{LaidPiece, Step, ◌>>=◌, give, over}
use Rattle.dsde_program_layout.specs.LayStatements.{lay_func, lay_body}
use Rattle.dsde_program_layout.specs.LayItems.{lay_all, lay_items}
use Rattle.dsde_language.specs.Statements.{body_scope}

-- a declaration, before those behind it
abbrev pub lay_decl : Known → Decl → Step Parts → Step Parts
lay_decl known (decl.Enum name variants) rest = rest
lay_decl known (decl.Rec name fields) rest = rest
lay_decl known (decl.Func name params result stmts value) rest =
    lay_func known params stmts value >>= (λ own. rest >>= (λ parts. give (record parts { functions = own ∷ parts.functions })))
lay_decl known (decl.Atomic at name params body) rest =
    lay_body known params at body >>= (λ own.
    rest >>= (λ parts. give (record parts { codes = own ∷ parts.codes; makes = [] ∷ parts.makes })))
lay_decl known (decl.Network at name params ports exec_at body items) rest =
    lay_body known params exec_at body >>= (λ own.
    over (body_scope known params body) (lay_items (place_of_items known ports body items) items) >>= (λ makes.
    rest >>= (λ parts. give (record parts { codes = own ∷ parts.codes; makes = makes ∷ parts.makes }))))
lay_decl known (decl.Top at name args) rest =
    lay_all known args >>= (λ values.
    rest >>= (λ parts. give (record parts { top_model = model_id known name.name; top_args = values })))

abbrev pub lay_decls : Known → List Decl → Step Parts
lay_decls known [] = give no_parts
lay_decls known (own ∷ decls) = lay_decl known own (lay_decls known decls)

-- tables of nothing
abbrev pub no_tables : Tables
no_tables = record { nodes = []; blocks = []; vias = [] }

-- the whole of a model
abbrev pub lay_model : Model → LaidPiece Parts
lay_model model = lay_decls (whole_of model) model.decls [] no_tables
