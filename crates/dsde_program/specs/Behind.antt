-- What is laid of each declaration behind those before it: what the code does, step by step.
use Rattle.std.specs.Prelude.{ℕ, List, [], ◌∷◌, ◌++◌, Option, Some, None}
use Rattle.dsde_syntax.specs.declared.expr.Expr.{Expr}
use Rattle.dsde_syntax.specs.declared.stmt.Stmt.{Stmt}
use Rattle.dsde_syntax.specs.declared.item.Item.{Item}
use Rattle.dsde_syntax.specs.declared.decl.Body.{Body}
use Rattle.dsde_syntax.specs.declared.decl.Decl.{Decl}
use Rattle.dsde_syntax.specs.declared.decl.Decl.TheVariants as decl
use Rattle.dsde_syntax.specs.declared.decl.PortDecl.{PortDecl}
use Rattle.dsde_syntax.specs.declared.decl.Typed.{Typed}
use Rattle.dsde_language.specs.declared.known.Known.{Known}
use Rattle.dsde_language.specs.DeclaredStructures.{place_of_items}
use Rattle.dsde_language.specs.DeclaredModels.{model_id}
use Rattle.dsde_language.specs.Statements.{body_scope}
use Rattle.dsde_program_bodies.specs.given.program_layout.LayPieces.{over}
use Rattle.dsde_program_bodies.specs.given.program_layout.LayStatements.{lay_func, lay_body}
use Rattle.dsde_program_bodies.specs.given.program_layout.LayItems.{lay_all, lay_items}
use Rattle.dsde_program_bodies.specs.given.program_layout.LayModels.{no_tables}
use Rattle.dsde_program.specs.declared.made.Made.{Made}
use Rattle.dsde_program.specs.declared.made.TopCode.{TopCode}

-- nothing yet
abbrev pub none_made : Made
none_made = record { functions = []; codes = []; makes = []; top = None; tables = no_tables }

abbrev pub behind_func : Known → List Typed → List Stmt → Expr → Made → Made
behind_func known params stmts value made =
    let one = lay_func known params stmts value [] made.tables in
    record made { functions = made.functions ++ one.own ∷ []; tables = one.tables }

abbrev pub behind_body : Known → List Typed → ℕ → Body → Made → Made
behind_body known params at body made =
    let one = lay_body known params at body [] made.tables in
    record made { codes = made.codes ++ one.own ∷ []; tables = one.tables }

abbrev pub behind_items : Known → List Typed → List PortDecl → Body → List Item → Made → Made
behind_items known params ports body items made =
    let one = over (body_scope known params body) (lay_items (place_of_items known ports body items) items) [] made.tables in
    record made { makes = made.makes ++ one.own ∷ []; tables = one.tables }

-- an atomic model has no items
abbrev pub no_items : Made → Made
no_items made = record made { makes = made.makes ++ [] ∷ [] }

-- the first `top` is the one that counts
abbrev pub first_top : Option TopCode → TopCode → Option TopCode
first_top None own = Some own
first_top (Some first) own = Some first

abbrev pub behind_top : Known → List ℕ → List Expr → Made → Made
behind_top known name args made =
    let one = lay_all known args [] made.tables in
    record made { top = first_top made.top (record { model = model_id known name; args = one.own }); tables = one.tables }

abbrev pub behind_decl : Known → Decl → Made → Made
behind_decl known (decl.Enum name variants) made = made
behind_decl known (decl.Rec name fields) made = made
behind_decl known (decl.Func name params result stmts value) made = behind_func known params stmts value made
behind_decl known (decl.Atomic at name params body) made = no_items (behind_body known params at body made)
behind_decl known (decl.Network at name params ports exec_at body items) made =
    behind_items known params ports body items (behind_body known params exec_at body made)
behind_decl known (decl.Top at name args) made = behind_top known name.name args made

abbrev pub behind_decls : Known → List Decl → Made → Made
behind_decls known [] made = made
behind_decls known (own ∷ decls) made = behind_decls known decls (behind_decl known own made)

-- what stands for a `top` that is absent; a model that is right has one
abbrev pub no_top : TopCode
no_top = record { model = record { 0 = 0 }; args = [] }
