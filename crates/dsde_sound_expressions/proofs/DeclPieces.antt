-- Where declarations stand in the tables, one before the others.
use Rattle.std.proofs.Common.{◌≡◌, ℕ, List, [], ◌∷◌, ◌++◌, Option, Some, None, refl, ◌∙◌}
use Rattle.dsde_language.specs.given.syntax.expr_Expr.{Expr}
use Rattle.dsde_language.specs.given.syntax.item_Item.{Item}
use Rattle.dsde_language.specs.given.syntax.stmt_Stmt.{Stmt}
use Rattle.dsde_language.specs.given.syntax.type_name_TypeName.{TypeName}
use Rattle.dsde_language.specs.given.syntax.id_Id.{Id}
use Rattle.dsde_language.specs.given.syntax.decl_Body.{Body}
use Rattle.dsde_language.specs.given.syntax.decl_Decl_TheVariants as decl
use Rattle.dsde_language.specs.given.syntax.decl_Phase.{Phase}
use Rattle.dsde_language.specs.given.syntax.decl_PortDecl.{PortDecl}
use Rattle.dsde_language.specs.given.syntax.decl_Typed.{Typed}
use Rattle.dsde_language.specs.declared.known.Known.{Known}
use Rattle.dsde_language.specs.declared.code.Code.{Code}
use Rattle.dsde_language.specs.declared.code.FnCode.{FnCode}
use Rattle.dsde_language.specs.declared.node_ids.ExprId.{ExprId}
use Rattle.dsde_language.specs.declared.make.Make.{Make}
use Rattle.dsde_language.specs.declared.node.Node.{Node}
use Rattle.dsde_language.specs.Names.{Scope}
use Rattle.dsde_language.specs.DeclaredModels.{model_id}
use Rattle.dsde_language.specs.Items.{resolve_all, resolve_items}
use Rattle.dsde_language.specs.DeclaredStructures.{place_of_items}
use Rattle.dsde_language.specs.NodeModels.{Parts, resolve_decl}
use Rattle.dsde_language.specs.Pieces.{Block, Next, Step, ◌>>=◌, behind, give, over}
use Rattle.dsde_language.specs.Statements.{resolve_phase, resolve_func, resolve_body, body_scope}
use Rattle.dsde_sound_expressions.proofs.Pieces.{Put, put-first, put-next}

-- the names that are seen behind a phase, a body and arguments are those before
phase-names : (known : Known) (outs names : Scope) (phase : Option Phase) (scope : Scope) (next : Next) → (resolve_phase known outs names phase scope next).scope ≡ scope
phase-names known outs names None scope next = refl
phase-names known outs names (Some phase) scope next = refl

pub body-names : (known : Known) (params : List Typed) (at : ℕ) (body : Body) (scope : Scope) (next : Next) → (resolve_body known params at body scope next).scope ≡ scope
body-names known params at body scope next =
    phase-names known [] _ body.confluent _ _
    ∙ (phase-names known [] _ body.external _ _
    ∙ (phase-names known [] _ body.internal _ _
    ∙ phase-names known _ _ body.output _ _))

pub args-names : (known : Known) (args : List Expr) (scope : Scope) (next : Next) → (resolve_all known args scope next).scope ≡ scope
args-names known [] scope next = refl
args-names known (own ∷ args) scope next = args-names known args scope _

module _ (nodes : List Node) (blocks : List Block) (known : Known) (rest : Step Parts) where
  -- the declarations behind one, and the codes in front of theirs
  pub record RestPut (scope : Scope) (front : List Code) (parts : Parts) : Type 0 where
    pub names : Scope
    pub next : Next
    pub put : Put nodes blocks next (rest names next)
    pub names_are : names ≡ scope
    pub codes : parts.codes ≡ front ++ (rest names next).own.codes

  -- the `top` is one behind
  pub record OtherPut (scope : Scope) (front : List Code) (parts : Parts) : Type 0 where
    pub own : RestPut scope front parts
    pub top_args : parts.top_args ≡ (rest own.names own.next).own.top_args

  module _ (name : Id) (params : List Typed) (result : TypeName) (stmts : List Stmt) (value : Expr) where
    abbrev func_parts : FnCode → Parts → Step Parts
    func_parts own parts = give (record parts { functions = own ∷ parts.functions })

    abbrev behind_func : FnCode → Step Parts
    behind_func own = rest >>= func_parts own

    pub func-put : (scope : Scope) (next : Next) → Put nodes blocks next (resolve_decl known (decl.Func name params result stmts value) rest scope next)
        → OtherPut scope [] (resolve_decl known (decl.Func name params result stmts value) rest scope next).own
    func-put scope next put =
        let first : Step FnCode = resolve_func known params stmts value in
        let one = first scope next in
        let next1 : Next = behind next one in
        let put1 = put-next nodes blocks first behind_func scope next put in
        record {
          own = record { names = scope; next = next1; put = put-first nodes blocks rest (func_parts one.own) scope next1 put1; names_are = refl; codes = refl };
          top_args = refl;
        }

  -- a body, and what stands behind it
  pub record BodyDecl (scope : Scope) (next : Next) (body : Step Code) (parts : Parts) : Type 0 where
    pub own : Put nodes blocks next (body scope next)
    pub other : OtherPut scope ((body scope next).own ∷ []) parts

  module _ (at : ℕ) (name : Id) (params : List Typed) (body : Body) where
    abbrev atomic_parts : Code → Parts → Step Parts
    atomic_parts own parts = give (record parts { codes = own ∷ parts.codes; makes = [] ∷ parts.makes })

    abbrev behind_atomic : Code → Step Parts
    behind_atomic own = rest >>= atomic_parts own

    pub atomic-put : (scope : Scope) (next : Next) → Put nodes blocks next (resolve_decl known (decl.Atomic at name params body) rest scope next)
        → BodyDecl scope next (resolve_body known params at body) (resolve_decl known (decl.Atomic at name params body) rest scope next).own
    atomic-put scope next put =
        let first : Step Code = resolve_body known params at body in
        let one = first scope next in
        let next1 : Next = behind next one in
        let put1 = put-next nodes blocks first behind_atomic scope next put in
        record {
          own = put-first nodes blocks first behind_atomic scope next put;
          other = record {
            own = record { names = one.scope; next = next1; put = put-first nodes blocks rest (atomic_parts one.own) one.scope next1 put1; names_are = body-names known params at body scope next; codes = refl };
            top_args = refl;
          };
        }

  module _ (at : ℕ) (name : Id) (params : List Typed) (ports : List PortDecl) (exec_at : ℕ) (body : Body) (items : List Item) where
    abbrev network_parts : Code → List Make → Parts → Step Parts
    network_parts own makes parts = give (record parts { codes = own ∷ parts.codes; makes = makes ∷ parts.makes })

    abbrev behind_items : Code → List Make → Step Parts
    behind_items own makes = rest >>= network_parts own makes

    abbrev items_step : Step (List Make)
    items_step = over (body_scope known params body) (resolve_items (place_of_items known ports body items) items)

    abbrev behind_exec : Code → Step Parts
    behind_exec own = items_step >>= behind_items own

    pub network-put : (scope : Scope) (next : Next) → Put nodes blocks next (resolve_decl known (decl.Network at name params ports exec_at body items) rest scope next)
        → BodyDecl scope next (resolve_body known params exec_at body) (resolve_decl known (decl.Network at name params ports exec_at body items) rest scope next).own
    network-put scope next put =
        let first : Step Code = resolve_body known params exec_at body in
        let one = first scope next in
        let next1 : Next = behind next one in
        let put1 = put-next nodes blocks first behind_exec scope next put in
        let two = items_step one.scope next1 in
        let next2 : Next = behind next1 two in
        let put2 = put-next nodes blocks items_step (behind_items one.own) one.scope next1 put1 in
        record {
          own = put-first nodes blocks first behind_exec scope next put;
          other = record {
            own = record { names = one.scope; next = next2; put = put-first nodes blocks rest (network_parts one.own two.own) one.scope next2 put2; names_are = body-names known params exec_at body scope next; codes = refl };
            top_args = refl;
          };
        }

  -- the `top`, and what stands behind it
  pub record TopPut (scope : Scope) (next : Next) (name : Id) (args : List Expr) (parts : Parts) : Type 0 where
    pub own : Put nodes blocks next (resolve_all known args scope next)
    pub top_args : parts.top_args ≡ (resolve_all known args scope next).own
    pub other : RestPut scope [] parts

  module _ (at : ℕ) (name : Id) (args : List Expr) where
    abbrev top_parts : List ExprId → Parts → Step Parts
    top_parts values parts = give (record parts { top_model = model_id known name.name; top_args = values })

    abbrev behind_args : List ExprId → Step Parts
    behind_args values = rest >>= top_parts values

    pub top-put : (scope : Scope) (next : Next) → Put nodes blocks next (resolve_decl known (decl.Top at name args) rest scope next)
        → TopPut scope next name args (resolve_decl known (decl.Top at name args) rest scope next).own
    top-put scope next put =
        let first : Step (List ExprId) = resolve_all known args in
        let one = first scope next in
        let next1 : Next = behind next one in
        let put1 = put-next nodes blocks first behind_args scope next put in
        record {
          own = put-first nodes blocks first behind_args scope next put;
          top_args = refl;
          other = record { names = one.scope; next = next1; put = put-first nodes blocks rest (top_parts one.own) one.scope next1 put1; names_are = args-names known args scope next; codes = refl };
        }
