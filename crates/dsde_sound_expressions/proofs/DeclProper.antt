-- Each declaration of a model that a text can spell is proper.
use Rattle.std.proofs.Common.{◌≡◌, Bool, true, List, [], ◌∷◌, ◌++◌, map, Option, Some, None, refl}
use Rattle.std.specs.Prelude.{◌&&◌}
use Rattle.std.specs.List.{list_all}
use Rattle.dsde_language.specs.given.words.key_Key.{Key}
use Rattle.dsde_language.specs.given.words.key_Key_TheVariants as key
use Rattle.dsde_language.specs.given.syntax.token_Sign_TheVariants as sign
use Rattle.dsde_language.specs.given.syntax.id_Id.{Id}
use Rattle.dsde_language.specs.given.syntax.type_name_TypeName.{TypeName}
use Rattle.dsde_language.specs.given.syntax.expr_Expr.{Expr}
use Rattle.dsde_language.specs.given.syntax.stmt_Stmt.{Stmt}
use Rattle.dsde_language.specs.given.syntax.item_Item.{Item}
use Rattle.dsde_language.specs.given.syntax.decl_Body.{Body}
use Rattle.dsde_language.specs.given.syntax.decl_Decl.{Decl}
use Rattle.dsde_language.specs.given.syntax.decl_Decl_TheVariants as decl
use Rattle.dsde_language.specs.given.syntax.decl_Model.{Model}
use Rattle.dsde_language.specs.given.syntax.decl_Phase.{Phase}
use Rattle.dsde_language.specs.given.syntax.decl_PortDecl.{PortDecl}
use Rattle.dsde_language.specs.given.syntax.decl_StateDecl.{StateDecl}
use Rattle.dsde_language.specs.given.syntax.decl_Typed.{Typed}
use Rattle.dsde_language.specs.given.syntax.Shape.{IsShaped}
use Rattle.dsde_language.specs.given.syntax.Grammar.{Tokens, word, mark, joined, commas, block, in_braces, type_tokens, expr_tokens, stmt_tokens, item_tokens, args_tokens, typed_tokens, params_tokens, port_tokens, state_tokens, phase_tokens, phases_tokens, body_tokens, result_tokens, exec_tokens, decl_tokens, tokens_of}
use Rattle.dsde_language.specs.given.syntax.Levels.{is_expr, is_stmt, is_item, is_state, is_phase, is_body, is_decl}
use Rattle.dsde_language.specs.Proper.{is_plain, is_proper, is_proper_stmt, are_plain, is_proper_phase, is_proper_body, is_proper_decl}
use Rattle.dsde_sound_expressions.proofs.Plain.{plain, both, and-true, cut, front-plain, behind-plain, flat-plain, join-plain, tokens-plain, Holds}
use Rattle.dsde_sound_expressions.proofs.ExprProper.{expr-proper}
use Rattle.dsde_sound_expressions.proofs.StmtProper.{block-plain, stmt-proper}

-- parts that are each proper
module _ {X : Type 0} (T : X → Tokens) (B P : X → Bool) (each : (x : X) → Holds (B x) (T x) (P x)) where
  pub all-proper : (xs : List X) → list_all B xs ≡ true → list_all plain (map T xs) ≡ true → list_all P xs ≡ true
  all-proper [] goods plains = refl
  all-proper (x ∷ xs) goods plains =
      let good = both (B x) (list_all B xs) goods in
      let part = both (plain (T x)) (list_all plain (map T xs)) plains in
      and-true (P x) (list_all P xs) ((each x).holds good.left part.left) (all-proper xs good.right part.right)

-- parts that their tokens alone make so
module _ {X : Type 0} (T : X → Tokens) (P : X → Bool) (each : (x : X) → plain (T x) ≡ true → P x ≡ true) where
  all-plain : (xs : List X) → list_all plain (map T xs) ≡ true → list_all P xs ≡ true
  all-plain [] plains = refl
  all-plain (x ∷ xs) plains =
      let part = both (plain (T x)) (list_all plain (map T xs)) plains in
      and-true (P x) (list_all P xs) (each x part.left) (all-plain xs part.right)

stmts-proper : (stmts : List Stmt) → list_all is_stmt stmts ≡ true → list_all plain (map stmt_tokens stmts) ≡ true → list_all is_proper_stmt stmts ≡ true
stmts-proper = all-proper stmt_tokens is_stmt is_proper_stmt stmt-proper

typed-plain : (typed : Typed) → plain (typed_tokens typed) ≡ true → is_plain typed.name ≡ true
typed-plain typed tokens = (both (is_plain typed.name) (plain (type_tokens typed.ty)) tokens).left

params-plain : (params : List Typed) → plain (params_tokens params) ≡ true → are_plain params ≡ true
params-plain params tokens =
    all-plain typed_tokens (λ (typed : Typed). is_plain typed.name) typed-plain params
    (join-plain (mark sign.Comma) (map typed_tokens params) (front-plain (commas (map typed_tokens params)) (mark sign.CloseParen) tokens))

pub args-proper : (args : List Expr) → list_all is_expr args ≡ true → plain (args_tokens args) ≡ true → list_all is_proper args ≡ true
args-proper args level tokens =
    all-proper expr_tokens is_expr is_proper (λ e. record { holds = (expr-proper e).holds }) args level
    (join-plain (mark sign.Comma) (map expr_tokens args) (front-plain (commas (map expr_tokens args)) (mark sign.CloseParen) tokens))

port-plain : (port : PortDecl) → plain (port_tokens port) ≡ true → is_plain port.name ≡ true
port-plain port tokens = (both (is_plain port.name) (plain (type_tokens port.ty ++ mark sign.Semicolon)) tokens).left

state-proper : (state : StateDecl) → Holds (is_state state) (state_tokens state) (is_plain state.name && is_proper state.value)
state-proper state = record {
  holds = λ level tokens.
      let typed : Tokens = type_tokens state.ty ++ mark sign.Equal in
      let own = both (is_plain state.name) (plain (typed ++ expr_tokens state.value ++ mark sign.Semicolon)) tokens in
      and-true (is_plain state.name) (is_proper state.value) own.left
      ((expr-proper state.value).holds level (behind-plain typed (expr_tokens state.value) (front-plain (typed ++ expr_tokens state.value) (mark sign.Semicolon) own.right)));
}

phase-proper : (begins : Key) (phase : Option Phase) → is_phase phase ≡ true → plain (phase_tokens begins phase) ≡ true → is_proper_phase phase ≡ true
phase-proper begins None level tokens = refl
phase-proper begins (Some phase) level tokens = stmts-proper phase.stmts level (block-plain (map stmt_tokens phase.stmts) tokens)

-- the four phases, in the order of their levels
pub record Phases (body : Body) : Type 0 where
  output : is_proper_phase body.output ≡ true
  internal : is_proper_phase body.internal ≡ true
  external : is_proper_phase body.external ≡ true
  confluent : is_proper_phase body.confluent ≡ true

phases-proper : (body : Body) → is_phase body.output ≡ true → is_phase body.internal ≡ true → is_phase body.external ≡ true → is_phase body.confluent ≡ true → plain (phases_tokens body) ≡ true → Phases body
phases-proper body output internal external confluent tokens =
    let t1 : Tokens = phase_tokens key.Output body.output in
    let t2 : Tokens = phase_tokens key.Internal body.internal in
    let t3 : Tokens = phase_tokens key.External body.external in
    let t4 : Tokens = phase_tokens key.Confluent body.confluent in
    let three = cut (t1 ++ t2 ++ t3) t4 tokens in
    let two = cut (t1 ++ t2) t3 three.left in
    let one = cut t1 t2 two.left in
    record {
      output = phase-proper key.Output body.output output one.left;
      internal = phase-proper key.Internal body.internal internal one.right;
      external = phase-proper key.External body.external external two.right;
      confluent = phase-proper key.Confluent body.confluent confluent three.right;
    }

body-proper : (body : Body) → is_body body ≡ true → plain (body_tokens body) ≡ true → is_proper_body body ≡ true
body-proper body level tokens =
    let l1 : Bool = list_all is_state body.states in
    let l2 : Bool = is_expr body.advance in
    let l3 : Bool = is_phase body.output in
    let l4 : Bool = is_phase body.internal in
    let l5 : Bool = is_phase body.external in
    let level5 = both (l1 && l2 && l3 && l4 && l5) (is_phase body.confluent) level in
    let level4 = both (l1 && l2 && l3 && l4) l5 level5.left in
    let level3 = both (l1 && l2 && l3) l4 level4.left in
    let level2 = both (l1 && l2) l3 level3.left in
    let level1 = both l1 l2 level2.left in
    let ports : Tokens = joined (map port_tokens body.ports) in
    let states : Tokens = joined (map state_tokens body.states) in
    let advance : Tokens = expr_tokens body.advance in
    let part4 = cut (ports ++ states ++ word key.Advance ++ advance ++ mark sign.Semicolon) (phases_tokens body) tokens in
    let part3 = cut (ports ++ states ++ word key.Advance) advance (front-plain (ports ++ states ++ word key.Advance ++ advance) (mark sign.Semicolon) part4.left) in
    let part1 = cut ports states (front-plain (ports ++ states) (word key.Advance) part3.left) in
    let phases = phases-proper body level2.right level3.right level4.right level5.right part4.right in
    and-true _ _ (all-plain port_tokens (λ (port : PortDecl). is_plain port.name) port-plain body.ports (flat-plain [] (map port_tokens body.ports) part1.left))
    (and-true _ _ (all-proper state_tokens is_state (λ (state : StateDecl). is_plain state.name && is_proper state.value) state-proper body.states level1.left (flat-plain [] (map state_tokens body.states) part1.right))
    (and-true _ _ ((expr-proper body.advance).holds level1.right part3.right)
    (and-true _ _ phases.output (and-true _ _ phases.internal (and-true _ _ phases.external phases.confluent)))))

func-proper : (name : Id) (params : List Typed) (ty : TypeName) (stmts : List Stmt) (value : Expr) → Holds (is_decl (decl.Func name params ty stmts value)) (decl_tokens (decl.Func name params ty stmts value)) (is_proper_decl (decl.Func name params ty stmts value))
func-proper name params ty stmts value = record {
  holds = λ level tokens.
      let placed = both (list_all is_stmt stmts) (is_expr value) level in
      let own = both (is_plain name) (plain (params_tokens params ++ mark sign.Arrow ++ type_tokens ty ++ result_tokens stmts value)) tokens in
      let part = cut (params_tokens params ++ mark sign.Arrow ++ type_tokens ty) (result_tokens stmts value) own.right in
      let typed = front-plain (params_tokens params) (mark sign.Arrow) (front-plain (params_tokens params ++ mark sign.Arrow) (type_tokens ty) part.left) in
      let said : Tokens = joined (map stmt_tokens stmts) ++ word key.Return in
      let inner : Tokens = said ++ expr_tokens value in
      let last = cut said (expr_tokens value) (front-plain inner (mark sign.Semicolon) (front-plain (inner ++ mark sign.Semicolon) (mark sign.CloseBrace) part.right)) in
      and-true _ _ (params-plain params typed)
      (and-true _ _ (stmts-proper stmts placed.left (flat-plain [] (map stmt_tokens stmts) (front-plain (joined (map stmt_tokens stmts)) (word key.Return) last.left)))
      ((expr-proper value).holds placed.right last.right));
}

-- parameters, and a body among tokens in braces
headed-proper : (name : Id) (params : List Typed) (body : Body) (inner : Tokens) → is_body body ≡ true → (plain inner ≡ true → plain (body_tokens body) ≡ true)
    → (is_plain name && plain (params_tokens params ++ in_braces inner)) ≡ true → (are_plain params && is_proper_body body) ≡ true
headed-proper name params body inner level has tokens =
    let own = both (is_plain name) (plain (params_tokens params ++ in_braces inner)) tokens in
    let part = cut (params_tokens params) (in_braces inner) own.right in
    and-true (are_plain params) (is_proper_body body) (params-plain params part.left)
    (body-proper body level (has (front-plain inner (mark sign.CloseBrace) part.right)))

exec-plain : (ports : List PortDecl) (body : Body) (items : List Item) → plain (joined (map port_tokens ports) ++ exec_tokens body items) ≡ true → plain (body_tokens body) ≡ true
exec-plain ports body items tokens =
    let front : Tokens = body_tokens body ++ word key.Structure in
    let all : Tokens = front ++ block (map item_tokens items) in
    let inside = front-plain all (mark sign.CloseBrace) (behind-plain (joined (map port_tokens ports)) (exec_tokens body items) tokens) in
    front-plain (body_tokens body) (word key.Structure) (front-plain front (block (map item_tokens items)) inside)

decl-proper : (own : Decl) → Holds (is_decl own) (decl_tokens own) (is_proper_decl own)
decl-proper (decl.Enum name variants) = record { holds = λ level tokens. refl }
decl-proper (decl.Rec name fields) = record { holds = λ level tokens. refl }
decl-proper (decl.Func name params ty stmts value) = func-proper name params ty stmts value
decl-proper (decl.Atomic at name params body) = record { holds = λ level tokens. headed-proper name params body (body_tokens body) level (λ own. own) tokens }
decl-proper (decl.Network at name params ports exec_at body items) = record {
  holds = λ level tokens.
      headed-proper name params body (joined (map port_tokens ports) ++ exec_tokens body items)
      (both (is_body body) (list_all is_item items) level).left (exec-plain ports body items) tokens;
}
decl-proper (decl.Top at name args) = record {
  holds = λ level tokens.
      let own = both (is_plain name) (plain (args_tokens args ++ mark sign.Semicolon)) tokens in
      args-proper args level (front-plain (args_tokens args) (mark sign.Semicolon) own.right);
}

pub shaped-is-proper : (model : Model) → IsShaped model → list_all is_proper_decl model.decls ≡ true
shaped-is-proper model shaped =
    all-proper decl_tokens is_decl is_proper_decl decl-proper model.decls shaped.levels
    (flat-plain [] (map decl_tokens model.decls) (tokens-plain (tokens_of model) shaped.tokens))
