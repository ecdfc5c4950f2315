-- Statements are read.
use Rattle.std.proofs.Common.{◌≡◌, ℕ, zero, suc, Bool, true, false, not, ◌&&◌, List, [], ◌∷◌, ◌++◌, map, Option, Some, None, refl, subst, append_assoc}
use Rattle.std.specs.List.{list_all}
use Rattle.std.specs.Option.{option_map}
use Rattle.dsde_syntax.specs.declared.token.Tok.TheVariants as tok
use Rattle.dsde_words.specs.declared.key.Key.{Key}
use Rattle.dsde_words.specs.declared.key.Key.TheVariants as key
use Rattle.dsde_syntax.specs.declared.token.Sign.TheVariants as sign
use Rattle.dsde_syntax.specs.declared.id.Id.{Id}
use Rattle.dsde_syntax.specs.declared.expr.Expr.{Expr}
use Rattle.dsde_syntax.specs.declared.stmt.Stmt.{Stmt}
use Rattle.dsde_syntax.specs.declared.stmt.StmtArm.{StmtArm}
use Rattle.dsde_syntax.specs.declared.stmt.Stmt.TheOpen.{Stmt-F, StmtArm-F}
use Rattle.dsde_syntax.specs.declared.stmt.Stmt.TheViews.{roll-Stmt, roll-StmtArm}
use Rattle.dsde_syntax.specs.declared.stmt.Stmt.TheFolds.{map-Stmt, map-StmtArm, fold-roll-Stmt, fold-roll-StmtArm, ind-Stmt}
use Rattle.dsde_syntax.specs.Grammar.{Tokens, word, mark, id_tokens, joined, elses, optional, in_parens, expr_tokens, let_tokens, set_tokens, for_tokens, if_tokens, stmt_step, stmt_arm_step, stmt_tokens, stmt_arm_tokens}
use Rattle.dsde_syntax.specs.Grammar.{block as block_tokens, else_block}
use Rattle.dsde_syntax.specs.Places.{Span, ◌>>◌, token, id_span, all_spans, spans_with, written_span, block_span, else_span, expr_span, set_span, for_span, stmt_span_step, stmt_arm_span_step, stmt_span, stmt_arm_span}
use Rattle.dsde_syntax.specs.Places.{bracketed as bracketed_span}
use Rattle.dsde_syntax.specs.Levels.{has_first, all_hold, if_written, is_expr, is_stmt_step, is_stmt_arm_step, is_stmt, is_stmt_arm}
use Rattle.dsde_parser_grammar.proofs.Reading.{Reader, Reads, AllRead, any, ending, pair, made, many, maybe, skip, ident, a_word, pair-Reads, made-Reads, fewer-Reads, maybe-none, maybe-some, many-Reads, skip-Reads, ident-Reads, word-Reads}
use Rattle.dsde_parser_grammar.proofs.ExprReaders.{stops, is_if, is_else_if, bracketed, separated, read_expr}
use Rattle.dsde_parser_grammar.proofs.TypeReads.{bracketed-Reads, stepped-Reads}
use Rattle.dsde_parser_grammar.proofs.LevelReads.{WholeExpr, whole}
use Rattle.dsde_parser_grammar.proofs.ListReads.{and-true}
use Rattle.dsde_parser_grammar.proofs.PrimReads.{arms-reads}
use Rattle.dsde_parser_grammar.proofs.ExprCases.{expr-reads, roll-claim}

-- an expression of the grammar is read
pub whole_expr : (e : Expr) → is_expr e ≡ true → WholeExpr e (expr_tokens e) (expr_span e)
whole_expr e h = whole (expr-reads e) h

-- the forms of statements
pub data StmtForm : Type 0 where
  a_let : StmtForm
  a_set : StmtForm
  a_send : StmtForm
  a_choice : StmtForm
  a_loop : StmtForm

abbrev pub stmt_form_of : Tokens → StmtForm
stmt_form_of (tok.Key key.Let ∷ ts) = a_let
stmt_form_of (tok.Key key.Var ∷ ts) = a_let
stmt_form_of (tok.Key key.Send ∷ ts) = a_send
stmt_form_of (tok.Key key.If ∷ ts) = a_choice
stmt_form_of (tok.Key key.For ∷ ts) = a_loop
stmt_form_of _ = a_set

abbrev pub begins_stmt : Tokens → Bool
begins_stmt (tok.Key key.Let ∷ ts) = true
begins_stmt (tok.Key key.Var ∷ ts) = true
begins_stmt (tok.Key key.Send ∷ ts) = true
begins_stmt (tok.Key key.If ∷ ts) = true
begins_stmt (tok.Key key.For ∷ ts) = true
begins_stmt (tok.Ident name ∷ ts) = true
begins_stmt _ = false

abbrev pub is_else : Tokens → Bool
is_else (tok.Key key.Else ∷ ts) = true
is_else _ = false

-- no further arm and no last block follows
abbrev pub no_else : Tokens → Bool
no_else ts = not (is_else ts)

abbrev pub is_var : Key → Bool
is_var key.Var = true
is_var _ = false

-- id "=" expr ";"
abbrev pub set_reader : ℕ → Reader (Id × Expr)
set_reader n = made (λ v. (v.0.0.0, v.0.1)) (pair (pair (pair ident skip) (read_expr n)) skip)

-- "for" id "in" expr
abbrev pub for_reader : ℕ → Reader (Id × Expr)
for_reader n = made (λ v. (v.0.0.1, v.1)) (pair (pair (pair skip ident) skip) (read_expr n))

-- "if" expr
abbrev pub if_reader : ℕ → Reader Expr
if_reader n = made (λ v. v.1) (pair skip (read_expr n))

-- "{" {part} "}"
abbrev pub block_reader : {A : Type 0} → (Tokens → Bool) → ℕ → Reader A → Reader (List A)
block_reader test n item = bracketed (many n test item)

-- "else" "{" {part} "}"
abbrev pub else_reader : {A : Type 0} → (Tokens → Bool) → ℕ → Reader A → Reader (List A)
else_reader test n item = made (λ v. v.1) (pair skip (block_reader test n item))

abbrev pub stmt_arm : ℕ → Reader Stmt → Reader StmtArm
stmt_arm n sub = made (λ v. roll-StmtArm (record { cond = v.0; body = v.1 })) (pair (if_reader n) (block_reader begins_stmt n sub))

abbrev pub stmt_branch : StmtForm → ℕ → Reader Stmt → Reader Stmt
stmt_branch a_let n sub = made (λ v. roll-Stmt (Stmt-F.Let (is_var v.0) v.1.0 v.1.1)) (pair a_word (set_reader n))
stmt_branch a_set n sub = made (λ v. roll-Stmt (Stmt-F.Set v.0 v.1)) (set_reader n)
stmt_branch a_send n sub =
    made (λ v. roll-Stmt (Stmt-F.Send v.0.0.1 v.0.1)) (pair (pair (pair skip ident) (bracketed (read_expr n))) skip)
stmt_branch a_choice n sub =
    made (λ v. roll-Stmt (Stmt-F.If v.0 v.1)) (pair (separated n is_else_if (stmt_arm n sub)) (maybe is_else (else_reader begins_stmt n sub)))
stmt_branch a_loop n sub = made (λ v. roll-Stmt (Stmt-F.For v.0.0 v.0.1 v.1)) (pair (for_reader n) (block_reader begins_stmt n sub))

abbrev pub read_stmt : ℕ → Reader Stmt
read_stmt zero at ts = None
read_stmt (suc n) at ts = stmt_branch (stmt_form_of ts) n (read_stmt n) at ts

-- the parts that statements and items share

pub set-Reads : (name : Id) (value : Expr) → is_expr value ≡ true → Reads any set_reader (name, value) (set_tokens name value) (set_span name value)
set-Reads name value h =
    made-Reads (λ v. (v.0.0.0, v.0.1))
    (pair-Reads (pair-Reads (pair-Reads (ident-Reads name) (skip-Reads (tok.Sign sign.Equal)) (λ rest h. refl)) (whole_expr value h).reads (λ rest h. refl)) (skip-Reads (tok.Sign sign.Semicolon)) (λ rest h. refl))

pub for-Reads : (name : Id) (list : Expr) → is_expr list ≡ true → Reads (stops 9) for_reader (name, list) (for_tokens name list) (for_span name list)
for-Reads name list h =
    made-Reads (λ v. (v.0.0.1, v.1))
    (pair-Reads (pair-Reads (pair-Reads (skip-Reads (tok.Key key.For)) (ident-Reads name) (λ rest h. refl)) (skip-Reads (tok.Key key.In)) (λ rest h. refl)) (whole_expr list h).reads (λ rest h. refl))

pub if-Reads : (cond : Expr) → is_expr cond ≡ true → Reads (stops 9) if_reader cond (if_tokens cond) (token >> expr_span cond)
if-Reads cond h = made-Reads (λ v. v.1) (pair-Reads (skip-Reads (tok.Key key.If)) (whole_expr cond h).reads (λ rest h. refl))

pub block-Reads : {A : Type 0} (test : Tokens → Bool) (item : ℕ → Reader A) → ((rest : Tokens) → test rest ≡ true → no_else rest ≡ true) → ((rest : Tokens) → test (tok.Sign sign.CloseBrace ∷ rest) ≡ false) → (vs : List A) (ts : List Tokens) (ss : List Span) → AllRead test no_else item vs ts ss → Reads any (λ n. block_reader test n (item n)) vs (block_tokens ts) (block_span ss)
block-Reads test item follows closes vs ts ss all =
    bracketed-Reads (tok.Sign sign.OpenBrace) (tok.Sign sign.CloseBrace) (many-Reads test no_else item follows vs ts ss all) (λ rest. rw (closes rest) refl)

pub else-Reads : {A : Type 0} (test : Tokens → Bool) (item : ℕ → Reader A) → ((rest : Tokens) → test rest ≡ true → no_else rest ≡ true) → ((rest : Tokens) → test (tok.Sign sign.CloseBrace ∷ rest) ≡ false) → (vs : List A) (ts : List Tokens) (ss : List Span) → AllRead test no_else item vs ts ss → Reads any (λ n. else_reader test n (item n)) vs (else_block ts) (else_span ss)
else-Reads test item follows closes vs ts ss all =
    made-Reads (λ v. v.1) (pair-Reads (skip-Reads (tok.Key key.Else)) (block-Reads test item follows closes vs ts ss all) (λ rest h. refl))

no_else-arm : (rest : Tokens) → no_else rest ≡ true → ending is_else_if any rest ≡ true
no_else-arm (tok.Key key.Else ∷ rest) h = cc
no_else-arm _ h = refl

-- the arms of a choice, and its last block where it is written
pub no_other-Reads : {A B : Type 0} (test : Tokens → Bool) (arm : ℕ → Reader B) (item : ℕ → Reader A) (v : B) (vs : List B) (t : Tokens) (ts : List Tokens) (s : Span) (ss : List Span) → AllRead is_if any arm (v ∷ vs) (t ∷ ts) (s ∷ ss) → Reads no_else (λ n. pair (separated n is_else_if (arm n)) (maybe is_else (else_reader test n (item n)))) (v ∷ vs, None) (elses (t ∷ ts) ++ []) (spans_with token (s ∷ ss) >> Some)
no_other-Reads test arm item v vs t ts s ss all =
    pair-Reads (arms-reads arm v vs t ts s ss all) (maybe-none is_else (λ n. else_reader test n (item n))) no_else-arm

pub other-Reads : {A B : Type 0} (test : Tokens → Bool) (arm : ℕ → Reader B) (item : ℕ → Reader A) → ((rest : Tokens) → test rest ≡ true → no_else rest ≡ true) → ((rest : Tokens) → test (tok.Sign sign.CloseBrace ∷ rest) ≡ false) → (v : B) (vs : List B) (t : Tokens) (ts : List Tokens) (s : Span) (ss : List Span) → AllRead is_if any arm (v ∷ vs) (t ∷ ts) (s ∷ ss) → (ws : List A) (us : List Tokens) (rs : List Span) → AllRead test no_else item ws us rs → Reads no_else (λ n. pair (separated n is_else_if (arm n)) (maybe is_else (else_reader test n (item n)))) (v ∷ vs, Some ws) (elses (t ∷ ts) ++ else_block us) (spans_with token (s ∷ ss) >> else_span rs)
other-Reads test arm item follows closes v vs t ts s ss all ws us rs own =
    fewer-Reads no_else (λ rest h. refl)
    (pair-Reads (arms-reads arm v vs t ts s ss all) (maybe-some is_else (else-Reads test item follows closes ws us rs own) (λ rest h. refl)) (λ rest h. refl))

-- statements

record StmtReads (v : Stmt) (t : Tokens) (ok : Bool) (s : Span) : Type 0 where
  begins : ok ≡ true → (rest : Tokens) → begins_stmt (t ++ rest) ≡ true
  reads : ok ≡ true → Reads no_else read_stmt v t s

record ArmReads (v : StmtArm) (t : Tokens) (ok : Bool) (s : Span) : Type 0 where
  begins : (rest : Tokens) → is_if (t ++ rest) ≡ true
  reads : ok ≡ true → Reads any (λ n. stmt_arm n (read_stmt n)) v t s

abbrev StmtClaim : Stmt → Type 0
StmtClaim v = StmtReads v (stmt_tokens v) (is_stmt v) (stmt_span v)

abbrev ArmClaim : StmtArm → Type 0
ArmClaim v = ArmReads v (stmt_arm_tokens v) (is_stmt_arm v) (stmt_arm_span v)

abbrev S : Type 0
S = (v : Stmt) × StmtClaim v

abbrev A : Type 0
A = (v : StmtArm) × ArmClaim v

stmt-within : {v : Stmt} {t : Tokens} {s : Span} {fit : Tokens → Bool} (form : StmtForm) → Reads fit (λ n. stmt_branch form n (read_stmt n)) v t s → ((rest : Tokens) → fit rest ≡ true → stmt_form_of (t ++ rest) ≡ form) → Reads fit read_stmt v t s
stmt-within form own begins = stepped-Reads read_stmt (λ form n. stmt_branch form n (read_stmt n)) stmt_form_of (λ n at ts. refl) form own begins

stmt-by : {v : Stmt} {t : Tokens} {s : Span} (form : StmtForm) → Reads any (λ n. stmt_branch form n (read_stmt n)) v t s → ((rest : Tokens) → stmt_form_of (t ++ rest) ≡ form) → Reads no_else read_stmt v t s
stmt-by form own begins = fewer-Reads no_else (λ rest h. refl) (stepped-Reads read_stmt (λ form n. stmt_branch form n (read_stmt n)) stmt_form_of (λ n at ts. refl) form own (λ rest h. begins rest))

goes-no_else : (rest : Tokens) → begins_stmt rest ≡ true → no_else rest ≡ true
goes-no_else (tok.Key key.Else ∷ rest) h = cc
goes-no_else _ h = refl

stmts-all : (list : List S) → all_hold (map is_stmt (map (λ e. e.0) list)) ≡ true → AllRead begins_stmt no_else read_stmt (map (λ e. e.0) list) (map stmt_tokens (map (λ e. e.0) list)) (map stmt_span (map (λ e. e.0) list))
stmts-all [] h = tt
stmts-all ((v, own) ∷ list) h =
    let both = and-true (is_stmt v) (all_hold (map is_stmt (map (λ e. e.0) list))) h in
    (own.reads both.0, own.begins both.0, stmts-all list both.1)

arms-all : (list : List A) → all_hold (map is_stmt_arm (map (λ e. e.0) list)) ≡ true → AllRead is_if any (λ n. stmt_arm n (read_stmt n)) (map (λ e. e.0) list) (map stmt_arm_tokens (map (λ e. e.0) list)) (map stmt_arm_span (map (λ e. e.0) list))
arms-all [] h = tt
arms-all ((v, own) ∷ list) h =
    let both = and-true (is_stmt_arm v) (all_hold (map is_stmt_arm (map (λ e. e.0) list))) h in
    (own.reads both.0, own.begins, arms-all list both.1)

stmts-block : (list : List S) → all_hold (map is_stmt (map (λ e. e.0) list)) ≡ true → Reads any (λ n. block_reader begins_stmt n (read_stmt n)) (map (λ e. e.0) list) (block_tokens (map stmt_tokens (map (λ e. e.0) list))) (block_span (map stmt_span (map (λ e. e.0) list)))
stmts-block list h = block-Reads begins_stmt read_stmt goes-no_else (λ rest. refl) _ _ _ (stmts-all list h)

let-reads : (mutable : Bool) (name : Id) (value : Expr) → StmtReads (roll-Stmt (Stmt-F.Let mutable name value)) (let_tokens mutable ++ set_tokens name value) (is_expr value) (token >> set_span name value)
let-reads true name value = record {
  begins = λ h rest. refl;
  reads = λ h. stmt-by a_let (made-Reads (λ v. roll-Stmt (Stmt-F.Let (is_var v.0) v.1.0 v.1.1)) (pair-Reads (word-Reads key.Var) (set-Reads name value h) (λ rest h. refl))) (λ rest. refl);
}
let-reads false name value = record {
  begins = λ h rest. refl;
  reads = λ h. stmt-by a_let (made-Reads (λ v. roll-Stmt (Stmt-F.Let (is_var v.0) v.1.0 v.1.1)) (pair-Reads (word-Reads key.Let) (set-Reads name value h) (λ rest h. refl))) (λ rest. refl);
}

assign-reads : (name : Id) (value : Expr) → StmtReads (roll-Stmt (Stmt-F.Set name value)) (set_tokens name value) (is_expr value) (set_span name value)
assign-reads name value = record {
  begins = λ h rest. refl;
  reads = λ h. stmt-by a_set (made-Reads (λ v. roll-Stmt (Stmt-F.Set v.0 v.1)) (set-Reads name value h)) (λ rest. refl);
}

send-reads : (port : Id) (value : Expr) → StmtReads (roll-Stmt (Stmt-F.Send port value)) (((word key.Send ++ id_tokens port) ++ in_parens (expr_tokens value)) ++ mark sign.Semicolon) (is_expr value) (((token >> id_span port) >> bracketed_span (expr_span value)) >> token)
send-reads port value = record {
  begins = λ h rest. refl;
  reads = λ h. stmt-by a_send
      (made-Reads (λ v. roll-Stmt (Stmt-F.Send v.0.0.1 v.0.1))
      (pair-Reads (pair-Reads (pair-Reads (skip-Reads (tok.Key key.Send)) (ident-Reads port) (λ rest h. refl))
      (bracketed-Reads (tok.Sign sign.OpenParen) (tok.Sign sign.CloseParen) (whole_expr value h).reads (λ rest. refl)) (λ rest h. refl)) (skip-Reads (tok.Sign sign.Semicolon)) (λ rest h. refl)))
      (λ rest. refl);
}

loop-reads : (name : Id) (list : Expr) (body : List S) → StmtReads (roll-Stmt (Stmt-F.For name list (map (λ e. e.0) body))) (for_tokens name list ++ block_tokens (map stmt_tokens (map (λ e. e.0) body))) (is_expr list && all_hold (map is_stmt (map (λ e. e.0) body))) (for_span name list >> block_span (map stmt_span (map (λ e. e.0) body)))
loop-reads name list body = record {
  begins = λ h rest. refl;
  reads = λ h.
      let both = and-true (is_expr list) (all_hold (map is_stmt (map (λ e. e.0) body))) h in
      stmt-by a_loop (made-Reads (λ v. roll-Stmt (Stmt-F.For v.0.0 v.0.1 v.1)) (pair-Reads (for-Reads name list both.0) (stmts-block body both.1) (λ rest h. refl))) (λ rest. refl);
}

arm-reads : (cond : Expr) (body : List S) → ArmReads (roll-StmtArm (record { cond = cond; body = map (λ e. e.0) body })) (if_tokens cond ++ block_tokens (map stmt_tokens (map (λ e. e.0) body))) (is_expr cond && all_hold (map is_stmt (map (λ e. e.0) body))) ((token >> expr_span cond) >> block_span (map stmt_span (map (λ e. e.0) body)))
arm-reads cond body = record {
  begins = λ rest. refl;
  reads = λ h.
      let both = and-true (is_expr cond) (all_hold (map is_stmt (map (λ e. e.0) body))) h in
      made-Reads (λ v. roll-StmtArm (record { cond = v.0; body = v.1 })) (pair-Reads (if-Reads cond both.0) (stmts-block body both.1) (λ rest h. refl));
}

-- what begins with "if"
if-stmt : (ts : Tokens) → is_if ts ≡ true → (begins_stmt ts ≡ true) × (stmt_form_of ts ≡ a_choice)
if-stmt (tok.Key key.If ∷ ts) h = (refl, refl)
if-stmt _ h = cc

pub first-arm : (t : Tokens) → ((rest : Tokens) → is_if (t ++ rest) ≡ true) → (m1 m2 rest : Tokens) → is_if (((t ++ m1) ++ m2) ++ rest) ≡ true
first-arm t begins m1 m2 rest = rw (append_assoc (t ++ m1) m2 rest, append_assoc t m1 (m2 ++ rest)) (begins (m1 ++ (m2 ++ rest)))

pub false-true : false ≡ true → ⊥
false-true h = cc

stmt-choice : (arms : List A) (other : Option (List S)) → StmtReads (roll-Stmt (Stmt-F.If (map (λ e. e.0) arms) (option_map (map (λ e. e.0)) other))) (elses (map stmt_arm_tokens (map (λ e. e.0) arms)) ++ optional else_block (option_map (map stmt_tokens) (option_map (map (λ e. e.0)) other))) ((has_first (map is_stmt_arm (map (λ e. e.0) arms)) && all_hold (map is_stmt_arm (map (λ e. e.0) arms))) && if_written all_hold (option_map (map is_stmt) (option_map (map (λ e. e.0)) other))) (spans_with token (map stmt_arm_span (map (λ e. e.0) arms)) >> written_span else_span (option_map (map stmt_span) (option_map (map (λ e. e.0)) other)))
stmt-choice [] other = record {
  begins = λ h. absurd (false-true (and-true false (if_written all_hold (option_map (map is_stmt) (option_map (map (λ e. e.0)) other))) h).0);
  reads = λ h. absurd (false-true (and-true false (if_written all_hold (option_map (map is_stmt) (option_map (map (λ e. e.0)) other))) h).0);
}
stmt-choice (first ∷ arms) None =
    let begins = λ (rest : Tokens). first-arm (stmt_arm_tokens first.0) first.1.begins _ [] rest in
    record {
      begins = λ h rest. (if-stmt _ (begins rest)).0;
      reads = λ h.
          let both = and-true (all_hold (map is_stmt_arm (map (λ e. e.0) (first ∷ arms)))) true h in
          stmt-within a_choice (made-Reads (λ v. roll-Stmt (Stmt-F.If v.0 v.1)) (no_other-Reads begins_stmt (λ n. stmt_arm n (read_stmt n)) read_stmt _ _ _ _ _ _ (arms-all (first ∷ arms) both.0))) (λ rest h. (if-stmt _ (begins rest)).1);
    }
stmt-choice (first ∷ arms) (Some last) =
    let begins = λ (rest : Tokens). first-arm (stmt_arm_tokens first.0) first.1.begins _ (else_block (map stmt_tokens (map (λ e. e.0) last))) rest in
    record {
      begins = λ h rest. (if-stmt _ (begins rest)).0;
      reads = λ h.
          let both = and-true (all_hold (map is_stmt_arm (map (λ e. e.0) (first ∷ arms)))) (all_hold (map is_stmt (map (λ e. e.0) last))) h in
          stmt-within a_choice (made-Reads (λ v. roll-Stmt (Stmt-F.If v.0 v.1)) (other-Reads begins_stmt (λ n. stmt_arm n (read_stmt n)) read_stmt goes-no_else (λ rest. refl) _ _ _ _ _ _ (arms-all (first ∷ arms) both.0) _ _ _ (stmts-all last both.1))) (λ rest h. (if-stmt _ (begins rest)).1);
    }

-- every statement

stmt-roll : (x : Stmt-F Stmt StmtArm) → StmtReads (roll-Stmt x) (stmt_step (map-Stmt Stmt StmtArm Tokens Tokens stmt_tokens stmt_arm_tokens x)) (is_stmt_step (map-Stmt Stmt StmtArm Bool Bool is_stmt is_stmt_arm x)) (stmt_span_step (map-Stmt Stmt StmtArm Span Span stmt_span stmt_arm_span x)) → StmtClaim (roll-Stmt x)
stmt-roll x own = roll-claim StmtReads (roll-Stmt x) _ _ _ _ _ _ (fold-roll-Stmt Tokens Tokens stmt_step stmt_arm_step x) (fold-roll-Stmt Bool Bool is_stmt_step is_stmt_arm_step x) (fold-roll-Stmt Span Span stmt_span_step stmt_arm_span_step x) own

arm-roll : (x : StmtArm-F Stmt StmtArm) → ArmReads (roll-StmtArm x) (stmt_arm_step (map-StmtArm Stmt StmtArm Tokens Tokens stmt_tokens stmt_arm_tokens x)) (is_stmt_arm_step (map-StmtArm Stmt StmtArm Bool Bool is_stmt is_stmt_arm x)) (stmt_arm_span_step (map-StmtArm Stmt StmtArm Span Span stmt_span stmt_arm_span x)) → ArmClaim (roll-StmtArm x)
arm-roll x own = roll-claim ArmReads (roll-StmtArm x) _ _ _ _ _ _ (fold-roll-StmtArm Tokens Tokens stmt_step stmt_arm_step x) (fold-roll-StmtArm Bool Bool is_stmt_step is_stmt_arm_step x) (fold-roll-StmtArm Span Span stmt_span_step stmt_arm_span_step x) own

stmt-case : (y : Stmt-F S A) → StmtClaim (roll-Stmt (map-Stmt S A Stmt StmtArm (λ e. e.0) (λ e. e.0) y))
stmt-case (Stmt-F.Let mutable name value) = stmt-roll (Stmt-F.Let mutable name value) (let-reads mutable name value)
stmt-case (Stmt-F.Set name value) = stmt-roll (Stmt-F.Set name value) (assign-reads name value)
stmt-case (Stmt-F.Send port value) = stmt-roll (Stmt-F.Send port value) (send-reads port value)
stmt-case (Stmt-F.If arms None) = stmt-roll (Stmt-F.If (map (λ e. e.0) arms) None) (stmt-choice arms None)
stmt-case (Stmt-F.If arms (Some last)) = stmt-roll (Stmt-F.If (map (λ e. e.0) arms) (Some (map (λ e. e.0) last))) (stmt-choice arms (Some last))
stmt-case (Stmt-F.For name list body) = stmt-roll (Stmt-F.For name list (map (λ e. e.0) body)) (loop-reads name list body)

arm-case : (y : StmtArm-F S A) → ArmClaim (roll-StmtArm (map-StmtArm S A Stmt StmtArm (λ e. e.0) (λ e. e.0) y))
arm-case y = arm-roll (record { cond = y.cond; body = map (λ e. e.0) y.body }) (arm-reads y.cond y.body)

stmt-reads : (v : Stmt) → StmtClaim v
stmt-reads = ind-Stmt StmtClaim ArmClaim
    (λ x y is. subst (λ (z : Stmt-F Stmt StmtArm). StmtClaim (roll-Stmt z)) is (stmt-case y))
    (λ x y is. subst (λ (z : StmtArm-F Stmt StmtArm). ArmClaim (roll-StmtArm z)) is (arm-case y))

-- several statements of the grammar are read
pub stmts-read : (list : List Stmt) → list_all is_stmt list ≡ true → AllRead begins_stmt no_else read_stmt list (map stmt_tokens list) (map stmt_span list)
stmts-read [] h = tt
stmts-read (v ∷ list) h =
    let both = and-true (is_stmt v) (list_all is_stmt list) h in
    ((stmt-reads v).reads both.0, (stmt-reads v).begins both.0, stmts-read list both.1)

pub stmts-block-read : (list : List Stmt) → list_all is_stmt list ≡ true → Reads any (λ n. block_reader begins_stmt n (read_stmt n)) list (block_tokens (map stmt_tokens list)) (block_span (map stmt_span list))
stmts-block-read list h = block-Reads begins_stmt read_stmt goes-no_else (λ rest. refl) _ _ _ (stmts-read list h)

pub stmts-Reads : (list : List Stmt) → list_all is_stmt list ≡ true → Reads (ending begins_stmt no_else) (λ n. many n begins_stmt (read_stmt n)) list (joined (map stmt_tokens list)) (all_spans (map stmt_span list))
stmts-Reads list h = many-Reads begins_stmt no_else read_stmt goes-no_else _ _ _ (stmts-read list h)
