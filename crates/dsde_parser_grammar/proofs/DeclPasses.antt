-- Each declaration passes, and so does each model.
use Rattle.std.proofs.Common.{◌≡◌, ℕ, ◌+◌, Bool, true, false, ◌&&◌, List, [], ◌∷◌, ◌++◌, map, Option, Some, None, refl, sym, ap, ◌∙◌, arith, append-nil}
use Rattle.std.specs.Prelude.{if◌then◌else◌, nat_lt}
use Rattle.std.specs.List.{list_all}
use Rattle.std.proofs.lemmas.Bool.Decides.{nat_tests}
use Rattle.dsde_syntax.specs.declared.token.Tok.TheVariants as tok
use Rattle.dsde_words.specs.declared.key.Key.{Key}
use Rattle.dsde_words.specs.declared.key.Key.TheVariants as key
use Rattle.dsde_syntax.specs.declared.token.Sign.TheVariants as sign
use Rattle.dsde_syntax.specs.declared.id.Id.{Id}
use Rattle.dsde_syntax.specs.declared.type_name.TypeName.{TypeName}
use Rattle.dsde_syntax.specs.declared.expr.Expr.{Expr}
use Rattle.dsde_syntax.specs.declared.stmt.Stmt.{Stmt}
use Rattle.dsde_syntax.specs.declared.item.Item.{Item}
use Rattle.dsde_syntax.specs.declared.decl.Model.{Model}
use Rattle.dsde_syntax.specs.declared.decl.Decl.{Decl}
use Rattle.dsde_syntax.specs.declared.decl.Decl.TheVariants as decl
use Rattle.dsde_syntax.specs.declared.decl.Typed.{Typed}
use Rattle.dsde_syntax.specs.declared.decl.PortDecl.{PortDecl}
use Rattle.dsde_syntax.specs.declared.decl.StateDecl.{StateDecl}
use Rattle.dsde_syntax.specs.declared.decl.Body.{Body}
use Rattle.dsde_syntax.specs.declared.decl.Phase.{Phase}
use Rattle.dsde_syntax.specs.Grammar.{Tokens, word, mark, id_tokens, joined, commas, in_braces, type_tokens, stmt_tokens, typed_tokens, params_tokens, port_tokens, state_tokens, phase_tokens, phases_tokens, body_tokens, result_tokens, exec_tokens, decl_tokens, tokens_of}
use Rattle.dsde_syntax.specs.Levels.{is_expr, is_stmt, is_item, is_phase, is_state, is_body, is_decl, has_levels}
use Rattle.dsde_parser_grammar.proofs.ListReads.{and-true}
use Rattle.dsde_parser_grammar.proofs.StmtReads.{no_else, false-true}
use Rattle.dsde_parser_grammar.specs.Want as want
use Rattle.dsde_parser_grammar.specs.Steps.{Wants, stop, start, typed, params, block, body, executive, network_body, function_body}
use Rattle.dsde_parser_grammar.proofs.Leading.{any, Leads, AllLead, AllPass, nothing, take, takes, last, closed, pair, beside, fewer, turned, passed, ended, left, several, separated}
use Rattle.dsde_parser_grammar.proofs.TypePasses.{type-passes}
use Rattle.dsde_parser_grammar.proofs.ExprPasses.{whole_expr}
use Rattle.dsde_parser_grammar.proofs.StmtPasses.{stmts-pass, stmts_block-passes}
use Rattle.dsde_parser_grammar.proofs.ItemPasses.{call_args-passes, items_block-passes}

-- names with their types, and parameters

typed-passes : (own : Typed) → Leads any typed [] (typed_tokens own)
typed-passes own = takes (tok.Ident own.name.name ∷ tok.Sign sign.Colon ∷ []) (type-passes own.ty) (λ more at rest. refl)

all-typed : (list : List Typed) → AllPass any typed (map typed_tokens list)
all-typed [] = tt
all-typed (own ∷ list) = (typed-passes own, all-typed list)

some-typed : (first : Typed) (list : List Typed) → Leads any (typed ++ want.more_typed ∷ []) (want.more_typed ∷ []) (commas (map typed_tokens (first ∷ list)))
some-typed first list = separated any typed (tok.Sign sign.Comma) want.more_typed (λ rest. refl) (λ more at rest. refl) _ _ (all-typed (first ∷ list))

params_rest-passes : (list : List Typed) (wants : Wants) → Leads any (want.params_rest ∷ wants) wants (commas (map typed_tokens list) ++ mark sign.CloseParen)
params_rest-passes [] wants = last (tok.Sign sign.CloseParen) (λ more at rest. refl)
params_rest-passes (first ∷ list) wants =
    turned (closed (tok.Sign sign.CloseParen) (beside (some-typed first list) (want.mark sign.CloseParen ∷ wants)) (λ rest. refl) (λ more at rest. refl)) (λ more at rest fits. refl)

params-passes : (list : List Typed) (wants : Wants) → Leads any (params ++ wants) wants (params_tokens list)
params-passes list wants = take (tok.Sign sign.OpenParen) (params_rest-passes list wants) (λ more at rest. refl)

all-ids : (list : List Id) → AllPass any (want.name ∷ []) (map id_tokens list)
all-ids [] = tt
all-ids (id ∷ list) = (last (tok.Ident id.name) (λ more at rest. refl), all-ids list)

-- ports and states

port_from-passes : (out : Bool) (name : Id) (ty : TypeName) → Leads any (want.ports ∷ []) (want.ports ∷ []) ((((word (if out then key.Out else key.In) ++ id_tokens name) ++ mark sign.Colon) ++ type_tokens ty) ++ mark sign.Semicolon)
port_from-passes true name ty =
    takes (tok.Key key.Out ∷ tok.Ident name.name ∷ tok.Sign sign.Colon ∷ [])
    (closed (tok.Sign sign.Semicolon) (beside (type-passes ty) (want.mark sign.Semicolon ∷ want.ports ∷ [])) (λ rest. refl) (λ more at rest. refl))
    (λ more at rest. refl)
port_from-passes false name ty =
    takes (tok.Key key.In ∷ tok.Ident name.name ∷ tok.Sign sign.Colon ∷ [])
    (closed (tok.Sign sign.Semicolon) (beside (type-passes ty) (want.mark sign.Semicolon ∷ want.ports ∷ [])) (λ rest. refl) (λ more at rest. refl))
    (λ more at rest. refl)

all-ports : (list : List PortDecl) → AllLead any (want.ports ∷ []) (map port_tokens list)
all-ports [] = tt
all-ports (port ∷ list) = (port_from-passes port.out port.name port.ty, (λ rest. refl), all-ports list)

-- {port}, before what is no port
ports-passes : (list : List PortDecl) → Leads (passed want.ports) (want.ports ∷ []) [] (joined (map port_tokens list))
ports-passes list = ended (passed want.ports) want.ports (several any (want.ports ∷ []) (map port_tokens list) (all-ports list)) (λ rest h. refl) (λ rest h. h)

state-passes : (state : StateDecl) → is_state state ≡ true → Leads any (want.states ∷ []) (want.states ∷ []) (state_tokens state)
state-passes state h =
    let value = want.expr ∷ want.mark sign.Semicolon ∷ want.states ∷ [] in
    let ty = closed {to = value} (tok.Sign sign.Equal) (beside (type-passes state.ty) (want.mark sign.Equal ∷ value)) (λ rest. refl) (λ more at rest. refl) in
    takes (tok.Key key.State ∷ tok.Ident state.name.name ∷ tok.Sign sign.Colon ∷ [])
    (closed (tok.Sign sign.Semicolon) (pair ty (beside (whole_expr state.value h).passes (want.mark sign.Semicolon ∷ want.states ∷ [])) (λ rest h. refl)) (λ rest. refl) (λ more at rest. refl))
    (λ more at rest. refl)

all-states : (list : List StateDecl) → list_all is_state list ≡ true → AllLead any (want.states ∷ []) (map state_tokens list)
all-states [] h = tt
all-states (state ∷ list) h =
    let both = and-true (is_state state) (list_all is_state list) h in
    (state-passes state both.0, (λ rest. refl), all-states list both.1)

-- {state} "advance"
states-closed : (list : List StateDecl) → list_all is_state list ≡ true → (wants : Wants) → Leads any (want.states ∷ want.word key.Advance ∷ wants) wants (joined (map state_tokens list) ++ word key.Advance)
states-closed list h wants =
    closed (tok.Key key.Advance) (beside (several any (want.states ∷ []) (map state_tokens list) (all-states list h)) (want.word key.Advance ∷ wants)) (λ rest. refl) (λ more at rest. refl)

states-no_port : (list : List StateDecl) (rest : Tokens) → passed want.ports ((joined (map state_tokens list) ++ word key.Advance) ++ rest) ≡ true
states-no_port [] rest = refl
states-no_port (state ∷ list) rest = refl

-- the phases, by their order

abbrev phase_no : Tokens → ℕ
phase_no (tok.Key key.Output ∷ ts) = 1
phase_no (tok.Key key.Internal ∷ ts) = 2
phase_no (tok.Key key.External ∷ ts) = 3
phase_no (tok.Key key.Confluent ∷ ts) = 4
phase_no (tok.Key key.Structure ∷ ts) = 5
phase_no (tok.Sign sign.CloseBrace ∷ ts) = 5
phase_no _ = 0

abbrev behind_phase : ℕ → Tokens → Bool
behind_phase k ts = nat_lt k (phase_no ts)

output-passed : (rest : Tokens) → behind_phase 1 rest ≡ true → passed (want.phase key.Output) rest ≡ true
output-passed (tok.Key key.Output ∷ rest) h = cc
output-passed _ h = refl

internal-passed : (rest : Tokens) → behind_phase 2 rest ≡ true → passed (want.phase key.Internal) rest ≡ true
internal-passed (tok.Key key.Internal ∷ rest) h = cc
internal-passed _ h = refl

external-passed : (rest : Tokens) → behind_phase 3 rest ≡ true → passed (want.phase key.External) rest ≡ true
external-passed (tok.Key key.External ∷ rest) h = cc
external-passed _ h = refl

confluent-passed : (rest : Tokens) → behind_phase 4 rest ≡ true → passed (want.phase key.Confluent) rest ≡ true
confluent-passed (tok.Key key.Confluent ∷ rest) h = cc
confluent-passed _ h = refl

-- a phase, or nothing
phase-passes : (which : Key) (k : ℕ) → ((rest : Tokens) → behind_phase k rest ≡ true → passed (want.phase which) rest ≡ true) → ((more : Wants) (at : ℕ) (rest : Tokens) → stop (want.phase which ∷ more) at (tok.Key which ∷ rest) ≡ stop (block want.stmts ++ more) (at + 1) rest) → (phase : Option Phase) → is_phase phase ≡ true → Leads (behind_phase k) (want.phase which ∷ []) [] (phase_tokens which phase)
phase-passes which k over turn None h = ended (behind_phase k) (want.phase which) (nothing (want.phase which ∷ [])) (λ rest h. refl) over
phase-passes which k over turn (Some phase) h =
    fewer (behind_phase k) (λ rest h. refl) (take (tok.Key which) (stmts_block-passes phase.stmts h []) turn)

-- what follows a phase: a later one, or what is behind them all
behind-next : (which : Key) (k : ℕ) → ((ts : Tokens) → phase_no (tok.Key which ∷ ts) ≡ k + 1) → (phase : Option Phase) (rest : Tokens) → behind_phase (k + 1) rest ≡ true → behind_phase k (phase_tokens which phase ++ rest) ≡ true
behind-next which k is None rest h = lower k (phase_no rest) h
  where
    lower : (k c : ℕ) → nat_lt (k + 1) c ≡ true → nat_lt k c ≡ true
    lower k c h = grind (arith, nat_tests)
behind-next which k is (Some phase) rest h = next k _ (is _)
  where
    next : (k c : ℕ) → c ≡ k + 1 → nat_lt k c ≡ true
    next k c h = grind (arith, nat_tests)

phases-passes : (own : Body) → is_phase own.output ≡ true → is_phase own.internal ≡ true → is_phase own.external ≡ true → is_phase own.confluent ≡ true → Leads (behind_phase 4) (want.phase key.Output ∷ want.phase key.Internal ∷ want.phase key.External ∷ want.phase key.Confluent ∷ []) [] (phases_tokens own)
phases-passes own h1 h2 h3 h4 =
    let output = beside (phase-passes key.Output 1 output-passed (λ more at rest. refl) own.output h1) (want.phase key.Internal ∷ want.phase key.External ∷ want.phase key.Confluent ∷ []) in
    let internal = beside (phase-passes key.Internal 2 internal-passed (λ more at rest. refl) own.internal h2) (want.phase key.External ∷ want.phase key.Confluent ∷ []) in
    let external = beside (phase-passes key.External 3 external-passed (λ more at rest. refl) own.external h3) (want.phase key.Confluent ∷ []) in
    let confluent = phase-passes key.Confluent 4 confluent-passed (λ more at rest. refl) own.confluent h4 in
    pair (pair (pair output internal (behind-next key.Internal 1 (λ ts. refl) own.internal)) external (behind-next key.External 2 (λ ts. refl) own.external)) confluent (behind-next key.Confluent 3 (λ ts. refl) own.confluent)

-- a body

body-passes : (own : Body) → is_body own ≡ true → Leads (behind_phase 4) body [] (body_tokens own)
body-passes own h =
    let b5 = and-true ((((list_all is_state own.states && is_expr own.advance) && is_phase own.output) && is_phase own.internal) && is_phase own.external) (is_phase own.confluent) h in
    let b4 = and-true (((list_all is_state own.states && is_expr own.advance) && is_phase own.output) && is_phase own.internal) (is_phase own.external) b5.0 in
    let b3 = and-true ((list_all is_state own.states && is_expr own.advance) && is_phase own.output) (is_phase own.internal) b4.0 in
    let b2 = and-true (list_all is_state own.states && is_expr own.advance) (is_phase own.output) b3.0 in
    let b1 = and-true (list_all is_state own.states) (is_expr own.advance) b2.0 in
    let phases = want.phase key.Output ∷ want.phase key.Internal ∷ want.phase key.External ∷ want.phase key.Confluent ∷ [] in
    let value = want.expr ∷ want.mark sign.Semicolon ∷ phases in
    let begun = left (joined (map port_tokens own.ports)) (joined (map state_tokens own.states)) (word key.Advance)
    (pair (beside (ports-passes own.ports) (want.states ∷ want.word key.Advance ∷ value)) (states-closed own.states b1.0 value) (λ rest h. states-no_port own.states rest)) in
    let advance = closed {to = phases} (tok.Sign sign.Semicolon) (pair begun (beside (whole_expr own.advance b1.1).passes (want.mark sign.Semicolon ∷ phases)) (λ rest h. refl)) (λ rest. refl) (λ more at rest. refl) in
    pair advance (phases-passes own b2.1 b3.1 b4.1 b5.1) (λ rest h. refl)

-- declarations

result-passes : (stmts : List Stmt) (value : Expr) → list_all is_stmt stmts ≡ true → is_expr value ≡ true → (wants : Wants) → Leads any (function_body ++ wants) wants (result_tokens stmts value)
result-passes stmts value h1 h2 wants =
    let ends = want.mark sign.Semicolon ∷ want.mark sign.CloseBrace ∷ wants in
    let begun = closed {to = want.expr ∷ ends} (tok.Key key.Return) (beside (several no_else (want.stmts ∷ []) (map stmt_tokens stmts) (stmts-pass stmts h1)) (want.word key.Return ∷ want.expr ∷ ends)) (λ rest. refl) (λ more at rest. refl) in
    let both = closed {to = want.mark sign.CloseBrace ∷ wants} (tok.Sign sign.Semicolon) (pair begun (beside (whole_expr value h2).passes ends) (λ rest h. refl)) (λ rest. refl) (λ more at rest. refl) in
    take (tok.Sign sign.OpenBrace) (closed (tok.Sign sign.CloseBrace) both (λ rest. refl) (λ more at rest. refl)) (λ more at rest. refl)

exec-passes : (own : Body) (items : List Item) → is_body own ≡ true → list_all is_item items ≡ true → (wants : Wants) → Leads any (executive ++ wants) wants (exec_tokens own items)
exec-passes own items h1 h2 wants =
    let ends = want.mark sign.CloseBrace ∷ wants in
    let begun = closed {to = block want.items ++ ends} (tok.Key key.Structure) (beside (body-passes own h1) (want.word key.Structure ∷ (block want.items ++ ends))) (λ rest. refl) (λ more at rest. refl) in
    takes (tok.Key key.Exec ∷ tok.Sign sign.OpenBrace ∷ [])
    (closed (tok.Sign sign.CloseBrace) (pair begun (items_block-passes items h2 ends) (λ rest h. refl)) (λ rest. refl) (λ more at rest. refl))
    (λ more at rest. refl)

decl-passes : (own : Decl) → is_decl own ≡ true → Leads any (want.decls ∷ []) (want.decls ∷ []) (decl_tokens own)
decl-passes (decl.Enum name []) h = absurd (false-true h)
decl-passes (decl.Enum name (first ∷ list)) h =
    let ids = separated any (want.name ∷ []) (tok.Sign sign.Comma) want.more_names (λ rest. refl) (λ more at rest. refl) _ _ (all-ids (first ∷ list)) in
    takes (tok.Key key.Enum ∷ tok.Ident name.name ∷ tok.Sign sign.OpenBrace ∷ [])
    (closed (tok.Sign sign.CloseBrace) (beside ids (want.mark sign.CloseBrace ∷ want.decls ∷ [])) (λ rest. refl) (λ more at rest. refl))
    (λ more at rest. refl)
decl-passes (decl.Rec name []) h = absurd (false-true h)
decl-passes (decl.Rec name (first ∷ list)) h =
    takes (tok.Key key.Record ∷ tok.Ident name.name ∷ tok.Sign sign.OpenBrace ∷ [])
    (closed (tok.Sign sign.CloseBrace) (beside (some-typed first list) (want.mark sign.CloseBrace ∷ want.decls ∷ [])) (λ rest. refl) (λ more at rest. refl))
    (λ more at rest. refl)
decl-passes (decl.Func name list ty stmts value) h =
    let both = and-true (list_all is_stmt stmts) (is_expr value) h in
    let result = function_body ++ want.decls ∷ [] in
    let begun = closed {to = want.ty ∷ result} (tok.Sign sign.Arrow) (params-passes list (want.mark sign.Arrow ∷ want.ty ∷ result)) (λ rest. refl) (λ more at rest. refl) in
    takes (tok.Key key.Fn ∷ tok.Ident name.name ∷ [])
    (pair (pair begun (beside (type-passes ty) result) (λ rest h. refl)) (result-passes stmts value both.0 both.1 (want.decls ∷ [])) (λ rest h. refl))
    (λ more at rest. refl)
decl-passes (decl.Atomic at name list own) h =
    let ends = want.mark sign.CloseBrace ∷ want.decls ∷ [] in
    let inner : Leads any (want.mark sign.OpenBrace ∷ (body ++ ends)) (want.decls ∷ []) (in_braces (body_tokens own)) =
    take (tok.Sign sign.OpenBrace) (closed (tok.Sign sign.CloseBrace) (beside (body-passes own h) ends) (λ rest. refl) (λ more at rest. refl)) (λ more at rest. refl) in
    takes (tok.Key key.Atomic ∷ tok.Ident name.name ∷ [])
    (pair (params-passes list (want.mark sign.OpenBrace ∷ (body ++ ends))) inner (λ rest h. refl))
    (λ more at rest. refl)
decl-passes (decl.Network at name list ports exec_at own items) h =
    let both = and-true (is_body own) (list_all is_item items) h in
    let ends = want.mark sign.CloseBrace ∷ want.decls ∷ [] in
    let inner : Leads any (network_body ++ want.decls ∷ []) (want.decls ∷ []) (in_braces (joined (map port_tokens ports) ++ exec_tokens own items)) =
    take (tok.Sign sign.OpenBrace)
    (closed (tok.Sign sign.CloseBrace) (pair (beside (ports-passes ports) (executive ++ ends)) (exec-passes own items both.0 both.1 ends) (λ rest h. refl)) (λ rest. refl) (λ more at rest. refl))
    (λ more at rest. refl) in
    takes (tok.Key key.Network ∷ tok.Ident name.name ∷ [])
    (pair (params-passes list (network_body ++ want.decls ∷ [])) inner (λ rest h. refl))
    (λ more at rest. refl)
decl-passes (decl.Top at name list) h =
    takes (tok.Key key.Top ∷ tok.Ident name.name ∷ [])
    (closed (tok.Sign sign.Semicolon) (call_args-passes list h (want.mark sign.Semicolon ∷ want.decls ∷ [])) (λ rest. refl) (λ more at rest. refl))
    (λ more at rest. refl)

all-decls : (list : List Decl) → list_all is_decl list ≡ true → AllLead any (want.decls ∷ []) (map decl_tokens list)
all-decls [] h = tt
all-decls (own ∷ list) h =
    let both = and-true (is_decl own) (list_all is_decl list) h in
    (decl-passes own both.0, (λ rest. refl), all-decls list both.1)

-- at no token of a model of the grammar the steps stop
pub model-passes : (model : Model) → has_levels model ≡ true → stop start 0 (tokens_of model) ≡ None
model-passes model h =
    let own = several any (want.decls ∷ []) (map decl_tokens model.decls) (all-decls model.decls h) in
    let there = own.goes [] 0 [] refl in
    sym (ap (λ (toks : Tokens). stop start 0 toks) (append-nil (tokens_of model))) ∙ there.1
