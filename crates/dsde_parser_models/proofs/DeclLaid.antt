-- The places in declarations and in whole models can be laid.
use Rattle.std.proofs.Common.{◌≡◌, ℕ, ◌+◌, ◌<◌, ◌^◌, ◌&&◌, List, ◌++◌, length, map, Option, Some, refl, sym, ap, subst, ◌∙◌, arith}
use Rattle.std.specs.Prelude.{All, if◌then◌else◌}
use Rattle.std.specs.List.{list_all}
use Rattle.dsde_syntax.specs.declared.token.Tok.TheVariants as tok
use Rattle.dsde_words.specs.declared.key.Key.{Key}
use Rattle.dsde_words.specs.declared.key.Key.TheVariants as key
use Rattle.dsde_syntax.specs.declared.token.Sign.TheVariants as sign
use Rattle.dsde_syntax.specs.declared.expr.Expr.{Expr}
use Rattle.dsde_syntax.specs.declared.stmt.Stmt.{Stmt}
use Rattle.dsde_syntax.specs.declared.item.Item.{Item}
use Rattle.dsde_syntax.specs.declared.decl.Model.{Model}
use Rattle.dsde_syntax.specs.declared.decl.Decl.{Decl}
use Rattle.dsde_syntax.specs.declared.decl.Decl.TheVariants as decl
use Rattle.dsde_syntax.specs.declared.decl.Typed.{Typed}
use Rattle.dsde_syntax.specs.declared.decl.PortDecl.{PortDecl}
use Rattle.dsde_syntax.specs.declared.decl.StateDecl.{StateDecl}
use Rattle.dsde_syntax.specs.declared.decl.Body.{Body}
use Rattle.dsde_syntax.specs.declared.decl.Phase.{Phase}
use Rattle.dsde_syntax.specs.Spelling.{IsToken}
use Rattle.dsde_syntax.specs.Shape.{IsShaped}
use Rattle.dsde_syntax.specs.Grammar.{Tokens, word, id_tokens, joined, block, typed_tokens, params_tokens, port_tokens, state_tokens, stmt_tokens, item_tokens, phase_tokens, body_tokens, result_tokens, exec_tokens, decl_tokens, tokens_of}
use Rattle.dsde_syntax.specs.Levels.{has_first, all_hold, is_expr, is_stmt, is_item, is_phase, is_state, is_body, is_decl, has_levels}
use Rattle.dsde_syntax.specs.Places.{◌>>◌, token_at, id_span, all_spans, args_span, block_span, stmt_span, item_span, typed_span, port_span, state_span, phase_span, body_span, result_span, exec_span, decl_span}
use Rattle.dsde_parser_grammar.specs.Begins.{IsGrammatical}
use Rattle.dsde_parser_models.proofs.Laying.{Lays, made, place, ident, both, behind, before, within, each_of, separated_of, written, all_held, has_first-map}
use Rattle.dsde_parser_models.proofs.ExprLaid.{type-laid, whole-laid, args-laid}
use Rattle.dsde_parser_models.proofs.StmtLaid.{stmt-laid}
use Rattle.dsde_parser_models.proofs.ItemLaid.{item-laid}

-- no kinds of what is of the grammar as it is
abbrev plain : {A : Type 0} → A → Unit {0}
plain v = tt

typed-laid : (typed : Typed) → Lays typed_tokens plain typed_span typed
typed-laid typed =
    made typed_tokens plain typed_span (both (before (ident typed.name) (tok.Sign sign.Colon)) (type-laid typed.ty)) (λ v. record { name = v.0; ty = v.1 }) (λ k. tt) (λ v. refl) (λ v. refl) (λ v at. refl)

params-laid : (params : List Typed) → Lays params_tokens (map plain) (λ params. args_span (map typed_span params)) params
params-laid params = within (tok.Sign sign.OpenParen) (tok.Sign sign.CloseParen) (separated_of (tok.Sign sign.Comma) typed_tokens plain typed_span typed-laid params)

port-laid : (port : PortDecl) → Lays port_tokens plain port_span port
port-laid port =
    made port_tokens plain port_span
    (before (both (before (behind (tok.Key (if port.out then key.Out else key.In)) (ident port.name)) (tok.Sign sign.Colon)) (type-laid port.ty)) (tok.Sign sign.Semicolon))
    (λ v. record { out = port.out; name = v.0; ty = v.1 }) (λ k. tt) (λ v. refl) (λ v. refl) (λ v at. refl)

ports-laid : (ports : List PortDecl) → Lays (λ ports. joined (map port_tokens ports)) (map plain) (λ ports. all_spans (map port_span ports)) ports
ports-laid = each_of port_tokens plain port_span port-laid

state-laid : (state : StateDecl) → Lays state_tokens is_state state_span state
state-laid state =
    let head = both (before (behind (tok.Key key.State) (ident state.name)) (tok.Sign sign.Colon)) (type-laid state.ty) in
    made state_tokens is_state state_span (before (both (before head (tok.Sign sign.Equal)) (whole-laid state.value)) (tok.Sign sign.Semicolon))
    (λ v. record { name = v.0.0; ty = v.0.1; value = v.1 }) (λ k. k.1) (λ v. refl) (λ v. refl) (λ v at. refl)

stmts-laid : (stmts : List Stmt) → Lays (λ vs. joined (map stmt_tokens vs)) (map is_stmt) (λ vs. all_spans (map stmt_span vs)) stmts
stmts-laid = each_of stmt_tokens is_stmt stmt_span stmt-laid

one_phase-laid : (begins : Key) (phase : Phase) → Lays (λ (v : Phase). word begins ++ block (map stmt_tokens v.stmts)) (λ (v : Phase). list_all is_stmt v.stmts) (λ (v : Phase). token_at v.at >> block_span (map stmt_span v.stmts)) phase
one_phase-laid begins phase =
    made (λ (v : Phase). word begins ++ block (map stmt_tokens v.stmts)) (λ (v : Phase). list_all is_stmt v.stmts) (λ (v : Phase). token_at v.at >> block_span (map stmt_span v.stmts))
    (both (place (tok.Key begins) phase.at) (within (tok.Sign sign.OpenBrace) (tok.Sign sign.CloseBrace) (stmts-laid phase.stmts)))
    (λ v. record { at = v.0; stmts = v.1 }) (λ k. all_hold k.1) (λ v. refl) (λ v. all_held is_stmt v.1) (λ v at. refl)

phase-laid : (begins : Key) (phase : Option Phase) → Lays (phase_tokens begins) is_phase phase_span phase
phase-laid begins =
    written (λ (v : Phase). word begins ++ block (map stmt_tokens v.stmts)) (λ (v : Phase). list_all is_stmt v.stmts) (λ (v : Phase). token_at v.at >> block_span (map stmt_span v.stmts)) (one_phase-laid begins)

body-laid : (body : Body) → Lays body_tokens is_body body_span body
body-laid body =
    let phases = both (both (both (phase-laid key.Output body.output) (phase-laid key.Internal body.internal)) (phase-laid key.External body.external)) (phase-laid key.Confluent body.confluent) in
    let states = both (ports-laid body.ports) (each_of state_tokens is_state state_span state-laid body.states) in
    made body_tokens is_body body_span
    (both (before (both (both states (place (tok.Key key.Advance) body.advance_at)) (whole-laid body.advance)) (tok.Sign sign.Semicolon)) phases)
    (λ v. record {
      ports = v.0.0.0.0;
      states = v.0.0.0.1;
      advance_at = v.0.0.1;
      advance = v.0.1;
      output = v.1.0.0.0;
      internal = v.1.0.0.1;
      external = v.1.0.1;
      confluent = v.1.1;
    })
    (λ k. all_hold k.0.0.0.1 && k.0.1 && k.1.0.0.0 && k.1.0.0.1 && k.1.0.1 && k.1.1)
    (λ v. refl)
    (λ v. ap (λ all. all && is_expr v.0.1 && is_phase v.1.0.0.0 && is_phase v.1.0.0.1 && is_phase v.1.0.1 && is_phase v.1.1) (all_held is_state v.0.0.0.1))
    (λ v at. refl)

-- "{" {stmt} "return" expr ";" "}"
result-laid : (stmts : List Stmt) (value : Expr) → Lays (λ (v : List Stmt × Expr). result_tokens v.0 v.1) (λ (v : List Stmt × Expr). list_all is_stmt v.0 && is_expr v.1) (λ (v : List Stmt × Expr). result_span v.0 v.1) (stmts, value)
result-laid stmts value =
    made (λ (v : List Stmt × Expr). result_tokens v.0 v.1) (λ (v : List Stmt × Expr). list_all is_stmt v.0 && is_expr v.1) (λ (v : List Stmt × Expr). result_span v.0 v.1)
    (within (tok.Sign sign.OpenBrace) (tok.Sign sign.CloseBrace) (before (both (before (stmts-laid stmts) (tok.Key key.Return)) (whole-laid value)) (tok.Sign sign.Semicolon)))
    (λ v. v) (λ k. all_hold k.0 && k.1) (λ v. refl) (λ v. ap (λ all. all && is_expr v.1) (all_held is_stmt v.0)) (λ v at. refl)

-- what stands in an executive: its place, its body and the items of its structure
abbrev Inside : Type 0
Inside = ℕ × Body × List Item

exec-laid : (at : ℕ) (body : Body) (items : List Item) → Lays (λ (v : Inside). exec_tokens v.1 v.2) (λ (v : Inside). is_body v.1 && list_all is_item v.2) (λ (v : Inside). exec_span v.0 v.1 v.2) (at, body, items)
exec-laid at body items =
    let inner = within (tok.Sign sign.OpenBrace) (tok.Sign sign.CloseBrace) (each_of item_tokens is_item item_span item-laid items) in
    made (λ (v : Inside). exec_tokens v.1 v.2) (λ (v : Inside). is_body v.1 && list_all is_item v.2) (λ (v : Inside). exec_span v.0 v.1 v.2)
    (both (place (tok.Key key.Exec) at) (within (tok.Sign sign.OpenBrace) (tok.Sign sign.CloseBrace) (both (before (body-laid body) (tok.Key key.Structure)) inner)))
    (λ v. (v.0, v.1.0, v.1.1)) (λ k. k.1.0 && all_hold k.1.1) (λ v. refl) (λ v. ap (λ all. is_body v.1.0 && all) (all_held is_item v.1.1)) (λ v at. refl)

abbrev DeclLaid : Decl → Type 0
DeclLaid v = Lays decl_tokens is_decl decl_span v

decl-laid : (v : Decl) → DeclLaid v
decl-laid (decl.Enum name variants) =
    let names = within (tok.Sign sign.OpenBrace) (tok.Sign sign.CloseBrace) (separated_of (tok.Sign sign.Comma) id_tokens plain id_span ident variants) in
    made decl_tokens is_decl decl_span (both (behind (tok.Key key.Enum) (ident name)) names) (λ v. decl.Enum v.0 v.1) (λ k. has_first k.1) (λ v. refl) (λ v. has_first-map plain v.1) (λ v at. refl)
decl-laid (decl.Rec name fields) =
    let own = within (tok.Sign sign.OpenBrace) (tok.Sign sign.CloseBrace) (separated_of (tok.Sign sign.Comma) typed_tokens plain typed_span typed-laid fields) in
    made decl_tokens is_decl decl_span (both (behind (tok.Key key.Record) (ident name)) own) (λ v. decl.Rec v.0 v.1) (λ k. has_first k.1) (λ v. refl) (λ v. has_first-map plain v.1) (λ v at. refl)
decl-laid (decl.Func name params ty stmts value) =
    let head = both (before (both (behind (tok.Key key.Fn) (ident name)) (params-laid params)) (tok.Sign sign.Arrow)) (type-laid ty) in
    made decl_tokens is_decl decl_span (both head (result-laid stmts value)) (λ v. decl.Func v.0.0.0 v.0.0.1 v.0.1 v.1.0 v.1.1) (λ k. k.1) (λ v. refl) (λ v. refl) (λ v at. refl)
decl-laid (decl.Atomic at name params body) =
    let head = both (both (place (tok.Key key.Atomic) at) (ident name)) (params-laid params) in
    made decl_tokens is_decl decl_span (both head (within (tok.Sign sign.OpenBrace) (tok.Sign sign.CloseBrace) (body-laid body))) (λ v. decl.Atomic v.0.0.0 v.0.0.1 v.0.1 v.1) (λ k. k.1) (λ v. refl) (λ v. refl) (λ v at. refl)
decl-laid (decl.Network at name params ports exec_at body items) =
    let head = both (both (place (tok.Key key.Network) at) (ident name)) (params-laid params) in
    made decl_tokens is_decl decl_span (both head (within (tok.Sign sign.OpenBrace) (tok.Sign sign.CloseBrace) (both (ports-laid ports) (exec-laid exec_at body items))))
    (λ v. decl.Network v.0.0.0 v.0.0.1 v.0.1 v.1.0 v.1.1.0 v.1.1.1 v.1.1.2) (λ k. k.1.1) (λ v. refl) (λ v. refl) (λ v at. refl)
decl-laid (decl.Top at name args) =
    made decl_tokens is_decl decl_span (before (both (both (place (tok.Key key.Top) at) (ident name)) (args-laid args)) (tok.Sign sign.Semicolon)) (λ v. decl.Top v.0.0 v.0.1 v.1) (λ k. all_hold k.1) (λ v. refl) (λ v. all_held is_expr v.1) (λ v at. refl)

-- Tokens of the grammar are those of a shaped model.
pub shaped : (tokens : Tokens) → IsGrammatical tokens → length tokens < 2 ^ 32 → (model : Model) × IsShaped model × (tokens_of model ≡ tokens)
shaped tokens whole few =
    let laid = each_of decl_tokens is_decl decl_span decl-laid whole.model.decls in
    let model : Model = record { decls = laid.lay 0 } in
    let same : tokens_of model ≡ tokens_of whole.model = laid.spells 0 in
    let spells : tokens_of model ≡ tokens = same ∙ whole.spells in
    let kinds : all_hold (map is_decl model.decls) ≡ all_hold (map is_decl whole.model.decls) = ap all_hold (laid.stands 0) in
    let levels : has_levels model ≡ has_levels whole.model = all_held is_decl model.decls ∙ (kinds ∙ sym (all_held is_decl whole.model.decls)) in
    let begun : 0 + length (tokens_of whole.model) ≡ length (tokens_of whole.model) = omega arith in
    let own : IsShaped model = record {
      levels = levels ∙ whole.levels;
      tokens = subst (All IsToken) (sym spells) whole.lawful;
      few = subst (λ (t : Tokens). length t < 2 ^ 32) (sym spells) few;
      places = laid.right 0 ∙ (ap Some begun ∙ ap (λ (t : Tokens). Some (length t)) (sym same));
    } in
    (model, own, spells)
