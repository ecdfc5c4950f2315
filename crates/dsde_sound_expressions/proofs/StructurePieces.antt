-- Where declarations stand in the tables, with their translations: one before the others.
use Rattle.std.proofs.Common.{◌≡◌, ℕ, ◌+◌, List, [], ◌∷◌, ◌++◌, length, refl, ap, ◌∙◌, arith}
use Rattle.std.specs.List.{flat_map}
use Rattle.dsde_language.specs.given.syntax.expr_Expr.{Expr}
use Rattle.dsde_language.specs.given.syntax.id_Id.{Id}
use Rattle.dsde_language.specs.given.syntax.item_Item.{Item}
use Rattle.dsde_language.specs.given.syntax.stmt_Stmt.{Stmt}
use Rattle.dsde_language.specs.given.syntax.type_name_TypeName.{TypeName}
use Rattle.dsde_language.specs.given.syntax.decl_Body.{Body}
use Rattle.dsde_language.specs.given.syntax.decl_Decl_TheVariants as decl
use Rattle.dsde_language.specs.given.syntax.decl_PortDecl.{PortDecl}
use Rattle.dsde_language.specs.given.syntax.decl_Typed.{Typed}
use Rattle.dsde_language.specs.declared.known.Known.{Known}
use Rattle.dsde_language.specs.declared.code.Code.{Code}
use Rattle.dsde_language.specs.declared.code.FnCode.{FnCode}
use Rattle.dsde_language.specs.declared.code.ViaCode.{ViaCode}
use Rattle.dsde_language.specs.declared.node_ids.ExprId.{ExprId}
use Rattle.dsde_language.specs.declared.make.Make.{Make}
use Rattle.dsde_language.specs.declared.node.Node.{Node}
use Rattle.dsde_language.specs.Names.{Scope}
use Rattle.dsde_language.specs.DeclaredModels.{model_id}
use Rattle.dsde_language.specs.Items.{resolve_all, resolve_items}
use Rattle.dsde_language.specs.DeclaredStructures.{place_of_items, vias_in}
use Rattle.dsde_language.specs.NodeModels.{Parts, resolve_decl}
use Rattle.dsde_language.specs.Pieces.{Block, Next, Piece, Step, ◌>>=◌, behind, give, over}
use Rattle.dsde_language.specs.Statements.{resolve_func, resolve_body, body_scope}
use Rattle.dsde_language.specs.Scopes.{Stands}
use Rattle.dsde_sound_expressions.specs.lemmas.Standing.{stands-left, stands-right}
use Rattle.dsde_sound_expressions.proofs.Pieces.{Put, put-first, put-next}
use Rattle.dsde_sound_expressions.proofs.Counts.{args-count, func-count, body-counts}
use Rattle.dsde_sound_expressions.proofs.ItemCounts.{items-count}

-- the number behind no translation
none-more : (via count : ℕ) → count ≡ 0 → via + count ≡ via
none-more via count none = omega (arith, none)

module _ (nodes : List Node) (blocks : List Block) (vias : List ViaCode) where
  -- A piece stands in the three tables from these numbers on.
  pub record Laid {A : Type 0} (next : Next) (piece : Piece A) : Type 0 where
    pub put : Put nodes blocks next piece
    pub vias_at : Stands vias next.via piece.vias

  pub laid-first : {A B : Type 0} (first : Step A) (more : A → Step B) (scope : Scope) (next : Next) → Laid next ((first >>= more) scope next) → Laid next (first scope next)
  laid-first first more scope next laid =
      let one = first scope next in
      let two = more one.own one.scope (behind next one) in
      record {
        put = put-first nodes blocks first more scope next laid.put;
        vias_at = stands-left vias next.via one.vias two.vias laid.vias_at;
      }

  pub laid-next : {A B : Type 0} (first : Step A) (more : A → Step B) (scope : Scope) (next : Next) → Laid next ((first >>= more) scope next)
      → Laid (behind next (first scope next)) (more (first scope next).own (first scope next).scope (behind next (first scope next)))
  laid-next first more scope next laid =
      let one = first scope next in
      let two = more one.own one.scope (behind next one) in
      record {
        put = put-next nodes blocks first more scope next laid.put;
        vias_at = stands-right vias next.via one.vias two.vias laid.vias_at;
      }

  module _ (known : Known) (rest : Step Parts) where
    -- the declarations behind one, from this translation on, and the items in front of theirs
    pub record RestLaid (via : ℕ) (front : List (List Make)) (parts : Parts) : Type 0 where
      pub names : Scope
      pub next : Next
      pub laid : Laid next (rest names next)
      pub from : next.via ≡ via
      pub makes : parts.makes ≡ front ++ (rest names next).own.makes

    module _ (name : Id) (params : List Typed) (result : TypeName) (stmts : List Stmt) (value : Expr) where
      abbrev func_parts : FnCode → Parts → Step Parts
      func_parts own parts = give (record parts { functions = own ∷ parts.functions })

      abbrev behind_func : FnCode → Step Parts
      behind_func own = rest >>= func_parts own

      pub func-laid : (scope : Scope) (next : Next) → Laid next (resolve_decl known (decl.Func name params result stmts value) rest scope next)
          → RestLaid next.via [] (resolve_decl known (decl.Func name params result stmts value) rest scope next).own
      func-laid scope next laid =
          let first : Step FnCode = resolve_func known params stmts value in
          let one = first scope next in
          let next1 : Next = behind next one in
          let laid1 = laid-next first behind_func scope next laid in
          record {
            names = scope;
            next = next1;
            laid = laid-first rest (func_parts one.own) scope next1 laid1;
            from = none-more next.via (length one.vias) ((func-count known params stmts value).has scope next);
            makes = refl;
          }

    module _ (at : ℕ) (name : Id) (params : List Typed) (body : Body) where
      abbrev atomic_parts : Code → Parts → Step Parts
      atomic_parts own parts = give (record parts { codes = own ∷ parts.codes; makes = [] ∷ parts.makes })

      abbrev behind_atomic : Code → Step Parts
      behind_atomic own = rest >>= atomic_parts own

      pub atomic-laid : (scope : Scope) (next : Next) → Laid next (resolve_decl known (decl.Atomic at name params body) rest scope next)
          → RestLaid next.via ([] ∷ []) (resolve_decl known (decl.Atomic at name params body) rest scope next).own
      atomic-laid scope next laid =
          let first : Step Code = resolve_body known params at body in
          let one = first scope next in
          let next1 : Next = behind next one in
          let laid1 = laid-next first behind_atomic scope next laid in
          record {
            names = one.scope;
            next = next1;
            laid = laid-first rest (atomic_parts one.own) one.scope next1 laid1;
            from = none-more next.via (length one.vias) ((body-counts known params at body).has scope next);
            makes = refl;
          }

    module _ (at : ℕ) (name : Id) (params : List Typed) (ports : List PortDecl) (exec_at : ℕ) (body : Body) (items : List Item) where
      abbrev network_parts : Code → List Make → Parts → Step Parts
      network_parts own makes parts = give (record parts { codes = own ∷ parts.codes; makes = makes ∷ parts.makes })

      abbrev behind_items : Code → List Make → Step Parts
      behind_items own makes = rest >>= network_parts own makes

      abbrev bare_items : Step (List Make)
      bare_items = resolve_items (place_of_items known ports body items) items

      abbrev items_step : Step (List Make)
      items_step = over (body_scope known params body) bare_items

      abbrev behind_exec : Code → Step Parts
      behind_exec own = items_step >>= behind_items own

      -- a body, the items behind it, and the declarations behind these
      pub record NetworkLaid (scope : Scope) (next : Next) (parts : Parts) : Type 0 where
        pub own : Put nodes blocks next (resolve_body known params exec_at body scope next)
        pub items_next : Next
        pub from : items_next.via ≡ next.via
        pub laid : Laid items_next (bare_items (body_scope known params body) items_next)
        pub rest_laid : RestLaid (next.via + length (flat_map vias_in items)) ((bare_items (body_scope known params body) items_next).own ∷ []) parts

      pub network-laid : (scope : Scope) (next : Next) → Laid next (resolve_decl known (decl.Network at name params ports exec_at body items) rest scope next)
          → NetworkLaid scope next (resolve_decl known (decl.Network at name params ports exec_at body items) rest scope next).own
      network-laid scope next laid =
          let first : Step Code = resolve_body known params exec_at body in
          let slots : Scope = body_scope known params body in
          let one = first scope next in
          let next1 : Next = behind next one in
          let laid0 = laid-first first behind_exec scope next laid in
          let laid1 = laid-next first behind_exec scope next laid in
          let two = items_step one.scope next1 in
          let next2 : Next = behind next1 two in
          let laid2 = laid-first items_step (behind_items one.own) one.scope next1 laid1 in
          let laid3 = laid-next items_step (behind_items one.own) one.scope next1 laid1 in
          let none = (body-counts known params exec_at body).has scope next in
          let count = (items-count (place_of_items known ports body items) items).has slots next1 in
          record {
            own = laid0.put;
            items_next = next1;
            from = none-more next.via (length one.vias) none;
            laid = record {
              put = record { nodes_at = laid2.put.nodes_at; blocks_at = laid2.put.blocks_at };
              vias_at = laid2.vias_at;
            };
            rest_laid = record {
              names = one.scope;
              next = next2;
              laid = laid-first rest (network_parts one.own two.own) one.scope next2 laid3;
              from =
                  ap (λ (via : ℕ). via + length (bare_items slots next1).vias) (none-more next.via (length one.vias) none)
                  ∙ ap (λ (count : ℕ). next.via + count) count;
              makes = refl;
            };
          }

    module _ (at : ℕ) (name : Id) (args : List Expr) where
      abbrev top_parts : List ExprId → Parts → Step Parts
      top_parts values parts = give (record parts { top_model = model_id known name.name; top_args = values })

      abbrev behind_args : List ExprId → Step Parts
      behind_args values = rest >>= top_parts values

      pub top-laid : (scope : Scope) (next : Next) → Laid next (resolve_decl known (decl.Top at name args) rest scope next)
          → RestLaid next.via [] (resolve_decl known (decl.Top at name args) rest scope next).own
      top-laid scope next laid =
          let first : Step (List ExprId) = resolve_all known args in
          let one = first scope next in
          let next1 : Next = behind next one in
          let laid1 = laid-next first behind_args scope next laid in
          record {
            names = one.scope;
            next = next1;
            laid = laid-first rest (top_parts one.own) one.scope next1 laid1;
            from = none-more next.via (length one.vias) ((args-count known args).has scope next);
            makes = refl;
          }
