-- Declarations are read, and so are whole models.
use Rattle.std.proofs.Common.{◌≡◌, ℕ, ◌+◌, Bool, true, false, not, ◌&&◌, List, [], ◌∷◌, ◌++◌, map, Option, Some, None, refl, sym, ap, ◌∙◌, arith, max}
use Rattle.std.specs.Prelude.{◌==◌, nat_lt}
use Rattle.std.specs.List.{list_all}
use Rattle.std.proofs.lemmas.Bool.Decides.{nat_tests}
use Rattle.dsde_syntax.specs.declared.token.Tok.TheVariants as tok
use Rattle.dsde_words.specs.declared.key.Key.{Key}
use Rattle.dsde_words.specs.declared.key.Key.TheVariants as key
use Rattle.dsde_syntax.specs.declared.token.Sign.TheVariants as sign
use Rattle.dsde_syntax.specs.declared.id.Id.{Id}
use Rattle.dsde_syntax.specs.declared.type_name.TypeName.{TypeName}
use Rattle.dsde_syntax.specs.declared.expr.Expr.{Expr}
use Rattle.dsde_syntax.specs.declared.stmt.Stmt.{Stmt}
use Rattle.dsde_syntax.specs.declared.item.Item.{Item}
use Rattle.dsde_syntax.specs.declared.decl.Model.{Model}
use Rattle.dsde_syntax.specs.declared.decl.Decl.{Decl}
use Rattle.dsde_syntax.specs.declared.decl.Decl.TheVariants as decl
use Rattle.dsde_syntax.specs.declared.decl.Typed.{Typed}
use Rattle.dsde_syntax.specs.declared.decl.PortDecl.{PortDecl}
use Rattle.dsde_syntax.specs.declared.decl.StateDecl.{StateDecl}
use Rattle.dsde_syntax.specs.declared.decl.Body.{Body}
use Rattle.dsde_syntax.specs.declared.decl.Phase.{Phase}
use Rattle.dsde_syntax.specs.Grammar.{Tokens, word, mark, id_tokens, joined, commas, in_braces, type_tokens, typed_tokens, params_tokens, port_tokens, state_tokens, phase_tokens, phases_tokens, body_tokens, result_tokens, exec_tokens, decl_tokens, tokens_of}
use Rattle.dsde_syntax.specs.Places.{Span, ◌>>◌, token, token_at, id_span, all_spans, spans_with, args_span, type_span, typed_span, port_span, state_span, phase_span, phases_span, body_span, result_span, exec_span, decl_span}
use Rattle.dsde_syntax.specs.Places.{bracketed as bracketed_span}
use Rattle.dsde_syntax.specs.Levels.{has_first, is_expr, is_stmt, is_item, is_phase, is_state, is_body, is_decl}
use Rattle.dsde_syntax.specs.Shape.{IsShaped}
use Rattle.dsde_parser_grammar.proofs.Reading.{Reader, Reads, AllRead, any, ending, pair, made, either, many, maybe, skip, place, ident, a_word, pair-Reads, made-Reads, fewer-Reads, either-first, either-second, maybe-none, maybe-some, many-Reads, skip-Reads, place-Reads, ident-Reads, word-Reads, some_one}
use Rattle.dsde_parser_grammar.proofs.ExprReaders.{is_comma, bracketed, separated, nothing, args, read_type, read_expr}
use Rattle.dsde_parser_grammar.proofs.TypeReads.{bracketed-Reads, type-Reads}
use Rattle.dsde_parser_grammar.proofs.ListReads.{and-true, separated-Reads, nothing-Reads}
use Rattle.dsde_parser_grammar.proofs.StmtReads.{whole_expr, begins_stmt, block_reader, read_stmt, stmts-block-read, stmts-Reads, false-true}
use Rattle.dsde_parser_grammar.proofs.ItemReads.{begins_item, read_item, args_read, items-block-read}

-- names with their types, and parameters

abbrev begins_id : Tokens → Bool
begins_id (tok.Ident name ∷ ts) = true
begins_id _ = false

abbrev typed_reader : ℕ → Reader Typed
typed_reader n = made (λ v. record { name = v.0.0; ty = v.1 }) (pair (pair ident skip) (read_type n))

abbrev params_reader : ℕ → Reader (List Typed)
params_reader n = bracketed (either begins_id (separated n is_comma (typed_reader n)) nothing)

typed-Reads : (typed : Typed) → Reads any typed_reader typed (typed_tokens typed) (typed_span typed)
typed-Reads typed =
    made-Reads (λ v. record { name = v.0.0; ty = v.1 })
    (pair-Reads (pair-Reads (ident-Reads typed.name) (skip-Reads (tok.Sign sign.Colon)) (λ rest h. refl)) (type-Reads typed.ty) (λ rest h. refl))

all-typed : (list : List Typed) → AllRead any any typed_reader list (map typed_tokens list) (map typed_span list)
all-typed [] = tt
all-typed (typed ∷ list) = (typed-Reads typed, (λ rest. refl), all-typed list)

some-typed : (first : Typed) (list : List Typed) → Reads (ending is_comma any) (λ n. separated n is_comma (typed_reader n)) (first ∷ list) (commas (map typed_tokens (first ∷ list))) (spans_with token (map typed_span (first ∷ list)))
some-typed first list =
    separated-Reads (tok.Sign sign.Comma) is_comma any any typed_reader (λ ts h. refl) (λ rest h. refl) _ _ _ _ _ _ (all-typed (first ∷ list))

abbrev closes : Tokens → Bool
closes (tok.Sign sign.CloseParen ∷ ts) = true
closes _ = false

closes-id : (rest : Tokens) → closes rest ≡ true → begins_id rest ≡ false
closes-id (tok.Sign sign.CloseParen ∷ rest) h = refl
closes-id _ h = cc

closes-comma : (rest : Tokens) → closes rest ≡ true → ending is_comma any rest ≡ true
closes-comma (tok.Sign sign.CloseParen ∷ rest) h = refl
closes-comma _ h = cc

params-inside : (list : List Typed) → Reads closes (λ n. either begins_id (separated n is_comma (typed_reader n)) nothing) list (commas (map typed_tokens list)) (spans_with token (map typed_span list))
params-inside [] = either-second (λ n. separated n is_comma (typed_reader n)) begins_id (fewer-Reads closes (λ rest h. refl) nothing-Reads) closes-id
params-inside (first ∷ list) = either-first (λ n. nothing) begins_id (fewer-Reads closes closes-comma (some-typed first list)) (λ rest h. refl)

params-Reads : (list : List Typed) → Reads any params_reader list (params_tokens list) (args_span (map typed_span list))
params-Reads list = bracketed-Reads (tok.Sign sign.OpenParen) (tok.Sign sign.CloseParen) (params-inside list) (λ rest. refl)

fields-Reads : (list : List Typed) → has_first list ≡ true → Reads any (λ n. bracketed (separated n is_comma (typed_reader n))) list (in_braces (commas (map typed_tokens list))) (args_span (map typed_span list))
fields-Reads [] h = absurd (false-true h)
fields-Reads (first ∷ list) h = bracketed-Reads (tok.Sign sign.OpenBrace) (tok.Sign sign.CloseBrace) (some-typed first list) (λ rest. refl)

all-ids : (list : List Id) → AllRead any any (λ n. ident) list (map id_tokens list) (map id_span list)
all-ids [] = tt
all-ids (id ∷ list) = (ident-Reads id, (λ rest. refl), all-ids list)

ids-Reads : (list : List Id) → has_first list ≡ true → Reads any (λ n. bracketed (separated n is_comma ident)) list (in_braces (commas (map id_tokens list))) (args_span (map id_span list))
ids-Reads [] h = absurd (false-true h)
ids-Reads (first ∷ list) h =
    bracketed-Reads (tok.Sign sign.OpenBrace) (tok.Sign sign.CloseBrace)
    (separated-Reads (tok.Sign sign.Comma) is_comma any any (λ n. ident) (λ ts h. refl) (λ rest h. refl) _ _ _ _ _ _ (all-ids (first ∷ list))) (λ rest. refl)

-- ports and states

abbrev is_port : Tokens → Bool
is_port (tok.Key key.In ∷ ts) = true
is_port (tok.Key key.Out ∷ ts) = true
is_port _ = false

abbrev is_out : Key → Bool
is_out key.Out = true
is_out _ = false

abbrev port_reader : ℕ → Reader PortDecl
port_reader n = made (λ v. record { out = is_out v.0.0.0.0; name = v.0.0.0.1; ty = v.0.1 }) (pair (pair (pair (pair a_word ident) skip) (read_type n)) skip)

port-by : (which : Key) (name : Id) (ty : TypeName) → Reads any port_reader (record { out = is_out which; name = name; ty = ty }) ((((word which ++ id_tokens name) ++ mark sign.Colon) ++ type_tokens ty) ++ mark sign.Semicolon) ((((token >> id_span name) >> token) >> type_span ty) >> token)
port-by which name ty =
    made-Reads (λ v. record { out = is_out v.0.0.0.0; name = v.0.0.0.1; ty = v.0.1 })
    (pair-Reads (pair-Reads (pair-Reads (pair-Reads (word-Reads which) (ident-Reads name) (λ rest h. refl)) (skip-Reads (tok.Sign sign.Colon)) (λ rest h. refl)) (type-Reads ty) (λ rest h. refl)) (skip-Reads (tok.Sign sign.Semicolon)) (λ rest h. refl))

port-parts : (out : Bool) (name : Id) (ty : TypeName) → let port : PortDecl = record { out = out; name = name; ty = ty } in Reads any port_reader port (port_tokens port) (port_span port) × ((rest : Tokens) → is_port (port_tokens port ++ rest) ≡ true)
port-parts true name ty = (port-by key.Out name ty, λ rest. refl)
port-parts false name ty = (port-by key.In name ty, λ rest. refl)

all-ports : (list : List PortDecl) → AllRead is_port any port_reader list (map port_tokens list) (map port_span list)
all-ports [] = tt
all-ports (port ∷ list) = let own = port-parts port.out port.name port.ty in (own.0, own.1, all-ports list)

ports-Reads : (list : List PortDecl) → Reads (ending is_port any) (λ n. many n is_port (port_reader n)) list (joined (map port_tokens list)) (all_spans (map port_span list))
ports-Reads list = many-Reads is_port any port_reader (λ rest h. refl) _ _ _ (all-ports list)

abbrev is_state_word : Tokens → Bool
is_state_word (tok.Key key.State ∷ ts) = true
is_state_word _ = false

abbrev state_reader : ℕ → Reader StateDecl
state_reader n =
    made (λ v. record { name = v.0.0.0.0.0.1; ty = v.0.0.0.1; value = v.0.1 })
    (pair (pair (pair (pair (pair (pair skip ident) skip) (read_type n)) skip) (read_expr n)) skip)

state-Reads : (state : StateDecl) → is_state state ≡ true → Reads any state_reader state (state_tokens state) (state_span state)
state-Reads state h =
    made-Reads (λ v. record { name = v.0.0.0.0.0.1; ty = v.0.0.0.1; value = v.0.1 })
    (pair-Reads (pair-Reads (pair-Reads (pair-Reads (pair-Reads (pair-Reads (skip-Reads (tok.Key key.State)) (ident-Reads state.name) (λ rest h. refl)) (skip-Reads (tok.Sign sign.Colon)) (λ rest h. refl)) (type-Reads state.ty) (λ rest h. refl)) (skip-Reads (tok.Sign sign.Equal)) (λ rest h. refl)) (whole_expr state.value h).reads (λ rest h. refl)) (skip-Reads (tok.Sign sign.Semicolon)) (λ rest h. refl))

all-states : (list : List StateDecl) → list_all is_state list ≡ true → AllRead is_state_word any state_reader list (map state_tokens list) (map state_span list)
all-states [] h = tt
all-states (state ∷ list) h =
    let both = and-true (is_state state) (list_all is_state list) h in
    (state-Reads state both.0, (λ rest. refl), all-states list both.1)

abbrev is_advance : Tokens → Bool
is_advance (tok.Key key.Advance ∷ ts) = true
is_advance _ = false

advance-state : (rest : Tokens) → is_advance rest ≡ true → ending is_state_word any rest ≡ true
advance-state (tok.Key key.Advance ∷ rest) h = refl
advance-state _ h = cc

advance-port : (rest : Tokens) → is_advance rest ≡ true → ending is_port any rest ≡ true
advance-port (tok.Key key.Advance ∷ rest) h = refl
advance-port _ h = cc

states-Reads : (list : List StateDecl) → list_all is_state list ≡ true → Reads is_advance (λ n. many n is_state_word (state_reader n)) list (joined (map state_tokens list)) (all_spans (map state_span list))
states-Reads list h = fewer-Reads is_advance advance-state (many-Reads is_state_word any state_reader (λ rest h. refl) _ _ _ (all-states list h))

states-port : (list : List StateDecl) (rest : Tokens) → is_advance rest ≡ true → ending is_port any (joined (map state_tokens list) ++ rest) ≡ true
states-port [] rest h = advance-port rest h
states-port (state ∷ list) rest h = refl

-- the phases, by their order

abbrev phase_no : Tokens → ℕ
phase_no (tok.Key key.Output ∷ ts) = 1
phase_no (tok.Key key.Internal ∷ ts) = 2
phase_no (tok.Key key.External ∷ ts) = 3
phase_no (tok.Key key.Confluent ∷ ts) = 4
phase_no (tok.Key key.Structure ∷ ts) = 5
phase_no (tok.Sign sign.CloseBrace ∷ ts) = 5
phase_no _ = 0

abbrev behind_phase : ℕ → Tokens → Bool
behind_phase k ts = nat_lt k (phase_no ts)

abbrev phase_reader : ℕ → Reader Phase
phase_reader n = made (λ v. record { at = v.0; stmts = v.1 }) (pair place (block_reader begins_stmt n (read_stmt n)))

abbrev maybe_phase : ℕ → ℕ → Reader (Option Phase)
maybe_phase k n = maybe (λ ts. phase_no ts == k) (phase_reader n)

behind-no : (k c : ℕ) → nat_lt k c ≡ true → not (c == k) ≡ true
behind-no k c h = let no : (c == k) ≡ false = grind (arith, nat_tests) in rw no refl

phase-Reads : (which : Key) (k : ℕ) → ((ts : Tokens) → phase_no (tok.Key which ∷ ts) ≡ k) → (phase : Option Phase) → is_phase phase ≡ true → Reads (behind_phase k) (maybe_phase k) phase (phase_tokens which phase) (phase_span phase)
phase-Reads which k is None h = fewer-Reads (behind_phase k) (λ rest h. behind-no k (phase_no rest) h) (maybe-none (λ ts. phase_no ts == k) phase_reader)
phase-Reads which k is (Some phase) h =
    fewer-Reads (behind_phase k) (λ rest h. refl)
    (maybe-some (λ ts. phase_no ts == k)
    (made-Reads (λ v. record { at = v.0; stmts = v.1 }) (pair-Reads (place-Reads (tok.Key which) phase.at) (stmts-block-read phase.stmts h) (λ rest h. refl)))
    (λ rest h. same-no k _ (is _)))
  where
    same-no : (k c : ℕ) → c ≡ k → (c == k) ≡ true
    same-no k c h = grind (arith, nat_tests)

-- what follows a phase: a later one, or what is behind them all
behind-next : (which : Key) (k : ℕ) → ((ts : Tokens) → phase_no (tok.Key which ∷ ts) ≡ k + 1) → (phase : Option Phase) (rest : Tokens) → behind_phase (k + 1) rest ≡ true → behind_phase k (phase_tokens which phase ++ rest) ≡ true
behind-next which k is None rest h = lower k (phase_no rest) h
  where
    lower : (k c : ℕ) → nat_lt (k + 1) c ≡ true → nat_lt k c ≡ true
    lower k c h = grind (arith, nat_tests)
behind-next which k is (Some phase) rest h = next k _ (is _)
  where
    next : (k c : ℕ) → c ≡ k + 1 → nat_lt k c ≡ true
    next k c h = grind (arith, nat_tests)

-- a body

abbrev phases_reader : ℕ → Reader (((Option Phase × Option Phase) × Option Phase) × Option Phase)
phases_reader n = pair (pair (pair (maybe_phase 1 n) (maybe_phase 2 n)) (maybe_phase 3 n)) (maybe_phase 4 n)

abbrev body_reader : ℕ → Reader Body
body_reader n =
    made (λ v. record { ports = v.0.0.0.0.0; states = v.0.0.0.0.1; advance_at = v.0.0.0.1; advance = v.0.0.1; output = v.1.0.0.0; internal = v.1.0.0.1; external = v.1.0.1; confluent = v.1.1 })
    (pair (pair (pair (pair (pair (many n is_port (port_reader n)) (many n is_state_word (state_reader n))) place) (read_expr n)) skip) (phases_reader n))

phases-Reads : (body : Body) → is_phase body.output ≡ true → is_phase body.internal ≡ true → is_phase body.external ≡ true → is_phase body.confluent ≡ true → Reads (behind_phase 4) phases_reader (((body.output, body.internal), body.external), body.confluent) (phases_tokens body) (phases_span body)
phases-Reads body h1 h2 h3 h4 =
    pair-Reads (pair-Reads (pair-Reads
    (phase-Reads key.Output 1 (λ ts. refl) body.output h1)
    (phase-Reads key.Internal 2 (λ ts. refl) body.internal h2) (behind-next key.Internal 1 (λ ts. refl) body.internal))
    (phase-Reads key.External 3 (λ ts. refl) body.external h3) (behind-next key.External 2 (λ ts. refl) body.external))
    (phase-Reads key.Confluent 4 (λ ts. refl) body.confluent h4) (behind-next key.Confluent 3 (λ ts. refl) body.confluent)

body-Reads : (body : Body) → is_body body ≡ true → Reads (behind_phase 4) body_reader body (body_tokens body) (body_span body)
body-Reads body h =
    let b5 = and-true ((((list_all is_state body.states && is_expr body.advance) && is_phase body.output) && is_phase body.internal) && is_phase body.external) (is_phase body.confluent) h in
    let b4 = and-true (((list_all is_state body.states && is_expr body.advance) && is_phase body.output) && is_phase body.internal) (is_phase body.external) b5.0 in
    let b3 = and-true ((list_all is_state body.states && is_expr body.advance) && is_phase body.output) (is_phase body.internal) b4.0 in
    let b2 = and-true (list_all is_state body.states && is_expr body.advance) (is_phase body.output) b3.0 in
    let b1 = and-true (list_all is_state body.states) (is_expr body.advance) b2.0 in
    made-Reads (λ v. record { ports = v.0.0.0.0.0; states = v.0.0.0.0.1; advance_at = v.0.0.0.1; advance = v.0.0.1; output = v.1.0.0.0; internal = v.1.0.0.1; external = v.1.0.1; confluent = v.1.1 })
    (pair-Reads (pair-Reads (pair-Reads (pair-Reads (pair-Reads (ports-Reads body.ports) (states-Reads body.states b1.0) (states-port body.states))
    (place-Reads (tok.Key key.Advance) body.advance_at) (λ rest h. refl)) (whole_expr body.advance b1.1).reads (λ rest h. refl)) (skip-Reads (tok.Sign sign.Semicolon)) (λ rest h. refl))
    (phases-Reads body b2.1 b3.1 b4.1 b5.1) (λ rest h. refl))

body_in_braces-Reads : (body : Body) → is_body body ≡ true → Reads any (λ n. bracketed (body_reader n)) body (in_braces (body_tokens body)) (bracketed_span (body_span body))
body_in_braces-Reads body h = bracketed-Reads (tok.Sign sign.OpenBrace) (tok.Sign sign.CloseBrace) (body-Reads body h) (λ rest. refl)

-- declarations

abbrev result_reader : ℕ → Reader (List Stmt × Expr)
result_reader n = made (λ v. (v.0.0.0, v.0.1)) (bracketed (pair (pair (pair (many n begins_stmt (read_stmt n)) skip) (read_expr n)) skip))

abbrev exec_reader : ℕ → Reader (ℕ × Body × List Item)
exec_reader n = made (λ v. (v.0, v.1.0.0, v.1.1)) (pair place (bracketed (pair (pair (body_reader n) skip) (block_reader begins_item n (read_item n)))))

result-Reads : (stmts : List Stmt) (value : Expr) → list_all is_stmt stmts ≡ true → is_expr value ≡ true → Reads any result_reader (stmts, value) (result_tokens stmts value) (result_span stmts value)
result-Reads stmts value h1 h2 =
    made-Reads (λ v. (v.0.0.0, v.0.1))
    (bracketed-Reads (tok.Sign sign.OpenBrace) (tok.Sign sign.CloseBrace)
    (pair-Reads (pair-Reads (pair-Reads (stmts-Reads stmts h1) (skip-Reads (tok.Key key.Return)) (λ rest h. refl)) (whole_expr value h2).reads (λ rest h. refl)) (skip-Reads (tok.Sign sign.Semicolon)) (λ rest h. refl)) (λ rest. refl))

exec-Reads : (at : ℕ) (body : Body) (items : List Item) → is_body body ≡ true → list_all is_item items ≡ true → Reads any exec_reader (at, body, items) (exec_tokens body items) (exec_span at body items)
exec-Reads at body items h1 h2 =
    made-Reads (λ v. (v.0, v.1.0.0, v.1.1))
    (pair-Reads (place-Reads (tok.Key key.Exec) at)
    (bracketed-Reads (tok.Sign sign.OpenBrace) (tok.Sign sign.CloseBrace)
    (pair-Reads (pair-Reads (body-Reads body h1) (skip-Reads (tok.Key key.Structure)) (λ rest h. refl)) (items-block-read items h2) (λ rest h. refl)) (λ rest. refl))
    (λ rest h. refl))

data DeclForm : Type 0 where
  an_enum : DeclForm
  a_rec : DeclForm
  a_fn : DeclForm
  an_atomic : DeclForm
  a_network : DeclForm
  a_top : DeclForm

abbrev decl_form : Tokens → DeclForm
decl_form (tok.Key key.Enum ∷ ts) = an_enum
decl_form (tok.Key key.Record ∷ ts) = a_rec
decl_form (tok.Key key.Fn ∷ ts) = a_fn
decl_form (tok.Key key.Atomic ∷ ts) = an_atomic
decl_form (tok.Key key.Network ∷ ts) = a_network
decl_form _ = a_top

abbrev begins_decl : Tokens → Bool
begins_decl (tok.Key key.Enum ∷ ts) = true
begins_decl (tok.Key key.Record ∷ ts) = true
begins_decl (tok.Key key.Fn ∷ ts) = true
begins_decl (tok.Key key.Atomic ∷ ts) = true
begins_decl (tok.Key key.Network ∷ ts) = true
begins_decl (tok.Key key.Top ∷ ts) = true
begins_decl _ = false

abbrev decl_branch : DeclForm → ℕ → Reader Decl
decl_branch an_enum n = made (λ v. decl.Enum v.0.1 v.1) (pair (pair skip ident) (bracketed (separated n is_comma ident)))
decl_branch a_rec n = made (λ v. decl.Rec v.0.1 v.1) (pair (pair skip ident) (bracketed (separated n is_comma (typed_reader n))))
decl_branch a_fn n =
    made (λ v. decl.Func v.0.0.0.0.1 v.0.0.0.1 v.0.1 v.1.0 v.1.1)
    (pair (pair (pair (pair (pair skip ident) (params_reader n)) skip) (read_type n)) (result_reader n))
decl_branch an_atomic n = made (λ v. decl.Atomic v.0.0.0 v.0.0.1 v.0.1 v.1) (pair (pair (pair place ident) (params_reader n)) (bracketed (body_reader n)))
decl_branch a_network n =
    made (λ v. decl.Network v.0.0.0 v.0.0.1 v.0.1 v.1.0 v.1.1.0 v.1.1.1 v.1.1.2)
    (pair (pair (pair place ident) (params_reader n)) (bracketed (pair (many n is_port (port_reader n)) (exec_reader n))))
decl_branch a_top n = made (λ v. decl.Top v.0.0.0 v.0.0.1 v.0.1) (pair (pair (pair place ident) (args n (read_expr n))) skip)

abbrev decl_reader : ℕ → Reader Decl
decl_reader n at ts = decl_branch (decl_form ts) n at ts

decl-by : {v : Decl} {t : Tokens} {s : Span} (form : DeclForm) → Reads any (decl_branch form) v t s → ((rest : Tokens) → decl_form (t ++ rest) ≡ form) → Reads any decl_reader v t s
decl-by {v} {t} {s} form own begins = record {
  least = own.least;
  gets = λ fuel at end rest enough is fits. ap (λ (form : DeclForm). decl_branch form fuel at (t ++ rest)) (begins rest) ∙ own.gets fuel at end rest enough is fits;
}

-- the word that begins a declaration, and its name
head-Reads : (which : Key) (name : Id) → Reads any (λ n. pair skip ident) (tt, name) (word which ++ id_tokens name) (token >> id_span name)
head-Reads which name = pair-Reads (skip-Reads (tok.Key which)) (ident-Reads name) (λ rest h. refl)

placed_head-Reads : (which : Key) (at : ℕ) (name : Id) → Reads any (λ n. pair place ident) (at, name) (word which ++ id_tokens name) (token_at at >> id_span name)
placed_head-Reads which at name = pair-Reads (place-Reads (tok.Key which) at) (ident-Reads name) (λ rest h. refl)

decl-reads : (own : Decl) → is_decl own ≡ true → Reads any decl_reader own (decl_tokens own) (decl_span own)
decl-reads (decl.Enum name variants) h =
    decl-by an_enum (made-Reads (λ v. decl.Enum v.0.1 v.1) (pair-Reads (head-Reads key.Enum name) (ids-Reads variants h) (λ rest h. refl))) (λ rest. refl)
decl-reads (decl.Rec name fields) h =
    decl-by a_rec (made-Reads (λ v. decl.Rec v.0.1 v.1) (pair-Reads (head-Reads key.Record name) (fields-Reads fields h) (λ rest h. refl))) (λ rest. refl)
decl-reads (decl.Func name params ty stmts value) h =
    let both = and-true (list_all is_stmt stmts) (is_expr value) h in
    decl-by a_fn
    (made-Reads (λ v. decl.Func v.0.0.0.0.1 v.0.0.0.1 v.0.1 v.1.0 v.1.1)
    (pair-Reads (pair-Reads (pair-Reads (pair-Reads (head-Reads key.Fn name) (params-Reads params) (λ rest h. refl)) (skip-Reads (tok.Sign sign.Arrow)) (λ rest h. refl)) (type-Reads ty) (λ rest h. refl)) (result-Reads stmts value both.0 both.1) (λ rest h. refl)))
    (λ rest. refl)
decl-reads (decl.Atomic at name params body) h =
    decl-by an_atomic
    (made-Reads (λ v. decl.Atomic v.0.0.0 v.0.0.1 v.0.1 v.1)
    (pair-Reads (pair-Reads (placed_head-Reads key.Atomic at name) (params-Reads params) (λ rest h. refl)) (body_in_braces-Reads body h) (λ rest h. refl)))
    (λ rest. refl)
decl-reads (decl.Network at name params ports exec_at body items) h =
    let both = and-true (is_body body) (list_all is_item items) h in
    decl-by a_network
    (made-Reads (λ v. decl.Network v.0.0.0 v.0.0.1 v.0.1 v.1.0 v.1.1.0 v.1.1.1 v.1.1.2)
    (pair-Reads (pair-Reads (placed_head-Reads key.Network at name) (params-Reads params) (λ rest h. refl))
    (bracketed-Reads (tok.Sign sign.OpenBrace) (tok.Sign sign.CloseBrace) (pair-Reads (ports-Reads ports) (exec-Reads exec_at body items both.0 both.1) (λ rest h. refl)) (λ rest. refl)) (λ rest h. refl)))
    (λ rest. refl)
decl-reads (decl.Top at name list) h =
    decl-by a_top
    (made-Reads (λ v. decl.Top v.0.0.0 v.0.0.1 v.0.1)
    (pair-Reads (pair-Reads (placed_head-Reads key.Top at name) (args_read list h) (λ rest h. refl)) (skip-Reads (tok.Sign sign.Semicolon)) (λ rest h. refl)))
    (λ rest. refl)

decl-begins : (own : Decl) (rest : Tokens) → begins_decl (decl_tokens own ++ rest) ≡ true
decl-begins (decl.Enum name variants) rest = refl
decl-begins (decl.Rec name fields) rest = refl
decl-begins (decl.Func name params ty stmts value) rest = refl
decl-begins (decl.Atomic at name params body) rest = refl
decl-begins (decl.Network at name params ports exec_at body items) rest = refl
decl-begins (decl.Top at name list) rest = refl

all-decls : (list : List Decl) → list_all is_decl list ≡ true → AllRead begins_decl any decl_reader list (map decl_tokens list) (map decl_span list)
all-decls [] h = tt
all-decls (own ∷ list) h =
    let both = and-true (is_decl own) (list_all is_decl list) h in
    (decl-reads own both.0, decl-begins own, all-decls list both.1)

decls-Reads : (list : List Decl) → list_all is_decl list ≡ true → Reads (ending begins_decl any) (λ n. many n begins_decl (decl_reader n)) list (joined (map decl_tokens list)) (all_spans (map decl_span list))
decls-Reads list h = many-Reads begins_decl any decl_reader (λ rest h. refl) _ _ _ (all-decls list h)

-- what one reader reads from the same tokens is the same
same-Reads : {A : Type 0} {fit : Tokens → Bool} {reader : ℕ → Reader A} {v w : A} {t u : Tokens} {s r : Span} → Reads fit reader v t s → Reads fit reader w u r → (end last : ℕ) → s 0 ≡ Some end → r 0 ≡ Some last → t ≡ u → fit [] ≡ true → v ≡ w
same-Reads {A} {fit} {reader} {v} {w} {t} {u} {s} {r} one two end last h1 h2 same fits =
    let fuel = max one.least two.least in
    let first = one.gets fuel 0 end [] (omega arith) h1 fits in
    let other = two.gets fuel 0 last [] (omega arith) h2 fits in
    let both : reader fuel 0 (t ++ []) ≡ reader fuel 0 (u ++ []) = ap (λ (toks : Tokens). reader fuel 0 (toks ++ [])) same in
    let got : (v, end, []) ≡ (w, last, []) = some_one (v, end, []) (w, last, []) (sym first ∙ (both ∙ other)) in
    ap (λ (own : A × ℕ × Tokens). own.0) got

pub same-model : (first other : Model) → IsShaped first → IsShaped other → tokens_of first ≡ tokens_of other → first ≡ other
same-model first other one two same =
    let decls = same-Reads (decls-Reads first.decls one.levels) (decls-Reads other.decls two.levels) _ _ one.places two.places same refl in
    ap (λ (list : List Decl). let model : Model = record { decls = list } in model) decls
