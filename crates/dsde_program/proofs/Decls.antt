-- What declarations lay behind others is what all of them lay.
use Rattle.std.proofs.Common.{◌≡◌, ℕ, List, [], ◌∷◌, ◌++◌, Option, Some, None, length, unwrap_or, refl, sym, ap, subst, ◌∙◌, arith}
use Rattle.std.proofs.lemmas.List.{append_assoc, append-nil, length-append}
use Rattle.dsde_syntax.specs.declared.expr.Expr.{Expr}
use Rattle.dsde_syntax.specs.declared.decl.Body.{Body}
use Rattle.dsde_syntax.specs.declared.decl.Decl.{Decl}
use Rattle.dsde_syntax.specs.declared.decl.Decl.TheVariants as decl
use Rattle.dsde_syntax.specs.declared.decl.Phase.{Phase}
use Rattle.dsde_syntax.specs.declared.decl.Typed.{Typed}
use Rattle.dsde_values.specs.declared.types.Field.{Field}
use Rattle.dsde_language.specs.declared.known.Known.{Known}
use Rattle.dsde_language.specs.declared.code.Code.{Code}
use Rattle.dsde_language.specs.declared.make.Make.{Make}
use Rattle.dsde_language.specs.declared.node_ids.ExprId.{ExprId}
use Rattle.dsde_language.specs.declared.tables.Tables.{Tables}
use Rattle.dsde_language.specs.declared.info.Info.{Info}
use Rattle.dsde_language.specs.DeclaredStructures.{place_of_items}
use Rattle.dsde_language.specs.NodeModels.{Parts, infos_from, with_info}
use Rattle.dsde_language.specs.DeclaredModels.{model_id}
use Rattle.dsde_language.specs.Statements.{body_scope}
use Rattle.dsde_language.specs.Names.{Scope}
use Rattle.dsde_program_bodies.specs.given.program_layout.LayPieces.{LaidPiece, over}
use Rattle.dsde_program_bodies.specs.given.program_layout.LayStatements.{lay_phase, lay_body}
use Rattle.dsde_program_bodies.specs.given.program_layout.LayItems.{lay_all, lay_items}
use Rattle.dsde_program_bodies.specs.given.program_layout.LayModels.{lay_decls, no_tables}
use Rattle.dsde_program.specs.Behind.{behind_body, behind_decls, behind_func, behind_items, behind_top, first_top, no_items, no_top, none_made}
use Rattle.dsde_program.specs.declared.made.Made.{Made}
use Rattle.dsde_program.specs.declared.made.TopCode.{TopCode}

-- the names that are seen behind a phase, a body and arguments are those before
phase-scope : (known : Known) (outs : List Field) (names : Scope) (phase : Option Phase) (scope : Scope) (tables : Tables)
    → (lay_phase known outs names phase scope tables).scope ≡ scope
phase-scope known outs names None scope tables = refl
phase-scope known outs names (Some phase) scope tables = refl

body-scope : (known : Known) (params : List Typed) (at : ℕ) (body : Body) (scope : Scope) (tables : Tables)
    → (lay_body known params at body scope tables).scope ≡ scope
body-scope known params at body scope tables =
    phase-scope known [] _ body.confluent _ _
    ∙ (phase-scope known [] _ body.external _ _
    ∙ (phase-scope known [] _ body.internal _ _
    ∙ phase-scope known _ _ body.output _ _))

args-scope : (known : Known) (args : List Expr) (scope : Scope) (tables : Tables) → (lay_all known args scope tables).scope ≡ scope
args-scope known [] scope tables = refl
args-scope known (own ∷ args) scope tables = args-scope known args scope _

-- the first `top`, where these parts stand behind
abbrev top_of : Parts → TopCode
top_of parts = record { model = parts.top_model; args = parts.top_args }

top-first : (top : Option TopCode) (own rest : TopCode) → unwrap_or (first_top top own) rest ≡ unwrap_or top own
top-first None own rest = refl
top-first (Some first) own rest = refl

-- what is made of declarations behind others
record Behind (before after : Made) (laid : LaidPiece Parts) : Type 0 where
  functions : after.functions ≡ before.functions ++ laid.own.functions
  codes : after.codes ≡ before.codes ++ laid.own.codes
  makes : after.makes ≡ before.makes ++ laid.own.makes
  top : unwrap_or after.top no_top ≡ unwrap_or before.top (top_of laid.own)
  tables : after.tables ≡ laid.tables

one-more : {A : Type 0} (after before : List A) (own : A) (rest : List A) → after ≡ (before ++ own ∷ []) ++ rest → after ≡ before ++ (own ∷ rest)
one-more after before own rest same = same ∙ append_assoc before (own ∷ []) rest

module _ (known : Known) where
  decls-behind : (decls : List Decl) (made : Made) → Behind made (behind_decls known decls made) (lay_decls known decls [] made.tables)
  decls-behind [] made = record {
    functions = sym (append-nil made.functions);
    codes = sym (append-nil made.codes);
    makes = sym (append-nil made.makes);
    top = refl;
    tables = refl;
  }
  decls-behind (decl.Enum name variants ∷ decls) made = decls-behind decls made
  decls-behind (decl.Rec name fields ∷ decls) made = decls-behind decls made
  decls-behind (decl.Func name params result stmts value ∷ decls) made =
      let rest = decls-behind decls (behind_func known params stmts value made) in
      record {
        functions = one-more _ _ _ _ rest.functions;
        codes = rest.codes;
        makes = rest.makes;
        top = rest.top;
        tables = rest.tables;
      }
  decls-behind (decl.Atomic at name params body ∷ decls) made =
      let rest = decls-behind decls (no_items (behind_body known params at body made)) in
      let one : LaidPiece Code = lay_body known params at body [] made.tables in
      subst (λ (scope : Scope). Behind made (behind_decls known decls (no_items (behind_body known params at body made)))
      (let laid : LaidPiece Parts = lay_decls known decls scope one.tables in
      let all : LaidPiece Parts = record laid { own = record laid.own { codes = one.own ∷ laid.own.codes; makes = [] ∷ laid.own.makes } } in all))
      (sym (body-scope known params at body [] made.tables))
      (record {
        functions = rest.functions;
        codes = one-more _ _ _ _ rest.codes;
        makes = one-more _ _ _ _ rest.makes;
        top = rest.top;
        tables = rest.tables;
      })
  decls-behind (decl.Network at name params ports exec_at body items ∷ decls) made =
      let rest = decls-behind decls (behind_items known params ports body items (behind_body known params exec_at body made)) in
      let one : LaidPiece Code = lay_body known params exec_at body [] made.tables in
      subst (λ (scope : Scope). Behind made (behind_decls known decls (behind_items known params ports body items (behind_body known params exec_at body made)))
      (let two : LaidPiece (List Make) = over (body_scope known params body) (lay_items (place_of_items known ports body items) items) scope one.tables in
      let laid : LaidPiece Parts = lay_decls known decls scope two.tables in
      let all : LaidPiece Parts = record laid { own = record laid.own { codes = one.own ∷ laid.own.codes; makes = two.own ∷ laid.own.makes } } in all))
      (sym (body-scope known params exec_at body [] made.tables))
      (record {
        functions = rest.functions;
        codes = one-more _ _ _ _ rest.codes;
        makes = one-more _ _ _ _ rest.makes;
        top = rest.top;
        tables = rest.tables;
      })
  decls-behind (decl.Top at name args ∷ decls) made =
      let rest = decls-behind decls (behind_top known name.name args made) in
      let one : LaidPiece (List ExprId) = lay_all known args [] made.tables in
      subst (λ (scope : Scope). Behind made (behind_decls known decls (behind_top known name.name args made))
      (let laid : LaidPiece Parts = lay_decls known decls scope one.tables in
      let all : LaidPiece Parts = record laid { own = record laid.own { top_model = model_id known name.name; top_args = one.own } } in all))
      (sym (args-scope known args [] made.tables))
      (record {
        functions = rest.functions;
        codes = rest.codes;
        makes = rest.makes;
        top = rest.top ∙ top-first made.top _ _;
        tables = rest.tables;
      })

  -- what is made of all declarations
  pub functions-made : (decls : List Decl) → (behind_decls known decls none_made).functions ≡ (lay_decls known decls [] no_tables).own.functions
  functions-made decls = (decls-behind decls none_made).functions

  pub codes-made : (decls : List Decl) → (behind_decls known decls none_made).codes ≡ (lay_decls known decls [] no_tables).own.codes
  codes-made decls = (decls-behind decls none_made).codes

  pub makes-made : (decls : List Decl) → (behind_decls known decls none_made).makes ≡ (lay_decls known decls [] no_tables).own.makes
  makes-made decls = (decls-behind decls none_made).makes

  pub tables-made : (decls : List Decl) → (behind_decls known decls none_made).tables ≡ (lay_decls known decls [] no_tables).tables
  tables-made decls = (decls-behind decls none_made).tables

  pub model-made : (decls : List Decl) → (unwrap_or (behind_decls known decls none_made).top no_top).model ≡ (lay_decls known decls [] no_tables).own.top_model
  model-made decls = ap (λ (top : TopCode). top.model) ((decls-behind decls none_made).top)

  pub args-made : (decls : List Decl) → (unwrap_or (behind_decls known decls none_made).top no_top).args ≡ (lay_decls known decls [] no_tables).own.top_args
  args-made decls = ap (λ (top : TopCode). top.args) ((decls-behind decls none_made).top)

one-longer : {A B : Type 0} (xs : List A) (ys : List B) (x : A) (y : B) → length xs ≡ length ys → length (xs ++ x ∷ []) ≡ length (ys ++ y ∷ [])
one-longer xs ys x y same = omega (arith, same, length-append xs (x ∷ []), length-append ys (y ∷ []))

-- each atomic model and each network has one body and one list of items
module _ (known : Known) where
  many-codes : (decls : List Decl) (infos : List Info) (made : Made) → length made.codes ≡ length infos
      → length (behind_decls known decls made).codes ≡ length (infos_from known infos decls)
  many-codes [] infos made same = same
  many-codes (decl.Enum name variants ∷ decls) infos made same = many-codes decls infos made same
  many-codes (decl.Rec name fields ∷ decls) infos made same = many-codes decls infos made same
  many-codes (decl.Func name params result stmts value ∷ decls) infos made same = many-codes decls infos (behind_func known params stmts value made) same
  many-codes (decl.Atomic at name params body ∷ decls) infos made same =
      many-codes decls (with_info known infos (decl.Atomic at name params body)) (no_items (behind_body known params at body made))
      (one-longer made.codes infos _ _ same)
  many-codes (decl.Network at name params ports exec_at body items ∷ decls) infos made same =
      many-codes decls (with_info known infos (decl.Network at name params ports exec_at body items)) (behind_items known params ports body items (behind_body known params exec_at body made))
      (one-longer made.codes infos _ _ same)
  many-codes (decl.Top at name args ∷ decls) infos made same = many-codes decls infos (behind_top known name.name args made) same

  many-makes : (decls : List Decl) (infos : List Info) (made : Made) → length made.makes ≡ length infos
      → length (behind_decls known decls made).makes ≡ length (infos_from known infos decls)
  many-makes [] infos made same = same
  many-makes (decl.Enum name variants ∷ decls) infos made same = many-makes decls infos made same
  many-makes (decl.Rec name fields ∷ decls) infos made same = many-makes decls infos made same
  many-makes (decl.Func name params result stmts value ∷ decls) infos made same = many-makes decls infos (behind_func known params stmts value made) same
  many-makes (decl.Atomic at name params body ∷ decls) infos made same =
      many-makes decls (with_info known infos (decl.Atomic at name params body)) (no_items (behind_body known params at body made))
      (one-longer made.makes infos _ _ same)
  many-makes (decl.Network at name params ports exec_at body items ∷ decls) infos made same =
      many-makes decls (with_info known infos (decl.Network at name params ports exec_at body items)) (behind_items known params ports body items (behind_body known params exec_at body made))
      (one-longer made.makes infos _ _ same)
  many-makes (decl.Top at name args ∷ decls) infos made same = many-makes decls infos (behind_top known name.name args made) same

  pub codes-many : (decls : List Decl) → length (behind_decls known decls none_made).codes ≡ length (infos_from known [] decls)
  codes-many decls = many-codes decls [] none_made refl

  pub makes-many : (decls : List Decl) → length (behind_decls known decls none_made).makes ≡ length (infos_from known [] decls)
  makes-many decls = many-makes decls [] none_made refl
