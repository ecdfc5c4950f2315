-- Each statement passes.
use Rattle.std.proofs.Common.{◌≡◌, ℕ, Bool, true, false, ◌&&◌, List, [], ◌∷◌, ◌++◌, map, Option, Some, None, refl, subst}
use Rattle.std.specs.List.{list_all}
use Rattle.std.specs.Option.{option_map}
use Rattle.dsde_syntax.specs.declared.token.Tok.TheVariants as tok
use Rattle.dsde_words.specs.declared.key.Key.TheVariants as key
use Rattle.dsde_syntax.specs.declared.token.Sign.TheVariants as sign
use Rattle.dsde_syntax.specs.declared.id.Id.{Id}
use Rattle.dsde_syntax.specs.declared.expr.Expr.{Expr}
use Rattle.dsde_syntax.specs.declared.stmt.Stmt.{Stmt}
use Rattle.dsde_syntax.specs.declared.stmt.StmtArm.{StmtArm}
use Rattle.dsde_syntax.specs.declared.stmt.Stmt.TheOpen.{Stmt-F, StmtArm-F}
use Rattle.dsde_syntax.specs.declared.stmt.Stmt.TheViews.{roll-Stmt, roll-StmtArm}
use Rattle.dsde_syntax.specs.declared.stmt.Stmt.TheFolds.{map-Stmt, map-StmtArm, fold-roll-Stmt, fold-roll-StmtArm, ind-Stmt}
use Rattle.dsde_syntax.specs.Grammar.{Tokens, word, mark, id_tokens, elses, optional, in_parens, expr_tokens, let_tokens, set_tokens, for_tokens, if_tokens, else_block, stmt_step, stmt_arm_step, stmt_tokens, stmt_arm_tokens}
use Rattle.dsde_syntax.specs.Grammar.{block as block_tokens}
use Rattle.dsde_syntax.specs.Levels.{has_first, all_hold, if_written, is_expr, is_stmt_step, is_stmt_arm_step, is_stmt, is_stmt_arm}
use Rattle.dsde_parser_grammar.proofs.ExprReaders.{is_if}
use Rattle.dsde_parser_grammar.proofs.ListReads.{and-true}
use Rattle.dsde_parser_grammar.proofs.StmtReads.{no_else, first-arm, false-true}
use Rattle.dsde_parser_grammar.specs.Want as want
use Rattle.dsde_parser_grammar.specs.Steps.{Wants, stop}
use Rattle.dsde_parser_grammar.proofs.Leading.{any, Leads, AllLead, AllFrom, take, takes, closed, beside, fewer, passed}
use Rattle.dsde_parser_grammar.proofs.ExprPasses.{roll-claim, whole_expr}
use Rattle.dsde_parser_grammar.proofs.BlockPasses.{set-passes, block-passes, arm-passes, loop-passes, choice_none-passes, choice_some-passes}

-- a statement passes, and may follow another
record StmtPasses (t : Tokens) (ok : Bool) : Type 0 where
  follows : ok ≡ true → (rest : Tokens) → no_else (t ++ rest) ≡ true
  passes : ok ≡ true → Leads no_else (want.stmts ∷ []) (want.stmts ∷ []) t

-- an arm of a choice passes, and begins with "if"
record ArmPasses (t : Tokens) (ok : Bool) : Type 0 where
  begins : (rest : Tokens) → is_if (t ++ rest) ≡ true
  passes : ok ≡ true → Leads any (want.else_stmts ∷ []) (want.other_stmts ∷ []) t

abbrev StmtClaim : Stmt → Type 0
StmtClaim v = StmtPasses (stmt_tokens v) (is_stmt v)

abbrev ArmClaim : StmtArm → Type 0
ArmClaim v = ArmPasses (stmt_arm_tokens v) (is_stmt_arm v)

abbrev S : Type 0
S = (v : Stmt) × StmtClaim v

abbrev A : Type 0
A = (v : StmtArm) × ArmClaim v

stmts-all : (list : List S) → all_hold (map is_stmt (map (λ e. e.0) list)) ≡ true → AllLead no_else (want.stmts ∷ []) (map stmt_tokens (map (λ e. e.0) list))
stmts-all [] h = tt
stmts-all ((v, own) ∷ list) h =
    let both = and-true (is_stmt v) (all_hold (map is_stmt (map (λ e. e.0) list))) h in
    (own.passes both.0, own.follows both.0, stmts-all list both.1)

arms-all : (list : List A) → all_hold (map is_stmt_arm (map (λ e. e.0) list)) ≡ true → AllFrom (want.else_stmts ∷ []) (want.other_stmts ∷ []) (map stmt_arm_tokens (map (λ e. e.0) list))
arms-all [] h = tt
arms-all ((v, own) ∷ list) h =
    let both = and-true (is_stmt_arm v) (all_hold (map is_stmt_arm (map (λ e. e.0) list))) h in
    (own.passes both.0, arms-all list both.1)

any-stmt : {t : Tokens} → Leads any (want.stmts ∷ []) (want.stmts ∷ []) t → Leads no_else (want.stmts ∷ []) (want.stmts ∷ []) t
any-stmt own = fewer no_else (λ rest h. refl) own

let-passes : (mutable : Bool) (name : Id) (value : Expr) → StmtPasses (let_tokens mutable ++ set_tokens name value) (is_expr value)
let-passes true name value = record {
  follows = λ h rest. refl;
  passes = λ h. any-stmt (take (tok.Key key.Var) (set-passes name value h (want.stmts ∷ [])) (λ more at rest. refl));
}
let-passes false name value = record {
  follows = λ h rest. refl;
  passes = λ h. any-stmt (take (tok.Key key.Let) (set-passes name value h (want.stmts ∷ [])) (λ more at rest. refl));
}

assign-passes : (name : Id) (value : Expr) → StmtPasses (set_tokens name value) (is_expr value)
assign-passes name value = record {
  follows = λ h rest. refl;
  passes = λ h. any-stmt
      (takes (tok.Ident name.name ∷ tok.Sign sign.Equal ∷ [])
      (closed (tok.Sign sign.Semicolon) (beside (whole_expr value h).passes (want.mark sign.Semicolon ∷ want.stmts ∷ [])) (λ rest. refl) (λ more at rest. refl))
      (λ more at rest. refl));
}

send-passes : (port : Id) (value : Expr) → StmtPasses (((word key.Send ++ id_tokens port) ++ in_parens (expr_tokens value)) ++ mark sign.Semicolon) (is_expr value)
send-passes port value = record {
  follows = λ h rest. refl;
  passes = λ h. any-stmt
      (takes (tok.Key key.Send ∷ tok.Ident port.name ∷ tok.Sign sign.OpenParen ∷ [])
      (closed (tok.Sign sign.Semicolon)
      (closed {to = want.mark sign.Semicolon ∷ want.stmts ∷ []} (tok.Sign sign.CloseParen) (beside (whole_expr value h).passes (want.mark sign.CloseParen ∷ want.mark sign.Semicolon ∷ want.stmts ∷ [])) (λ rest. refl) (λ more at rest. refl))
      (λ rest. refl) (λ more at rest. refl))
      (λ more at rest. refl));
}

stmt_loop-passes : (name : Id) (list : Expr) (body : List S) → StmtPasses (for_tokens name list ++ block_tokens (map stmt_tokens (map (λ e. e.0) body))) (is_expr list && all_hold (map is_stmt (map (λ e. e.0) body)))
stmt_loop-passes name list body = record {
  follows = λ h rest. refl;
  passes = λ h.
      let both = and-true (is_expr list) (all_hold (map is_stmt (map (λ e. e.0) body))) h in
      any-stmt (loop-passes want.stmts name list both.0 _ (stmts-all body both.1) (λ more at rest. refl) (λ more at rest. refl));
}

stmt_arm-passes : (cond : Expr) (body : List S) → ArmPasses (if_tokens cond ++ block_tokens (map stmt_tokens (map (λ e. e.0) body))) (is_expr cond && all_hold (map is_stmt (map (λ e. e.0) body)))
stmt_arm-passes cond body = record {
  begins = λ rest. refl;
  passes = λ h.
      let both = and-true (is_expr cond) (all_hold (map is_stmt (map (λ e. e.0) body))) h in
      arm-passes want.stmts want.other_stmts want.else_stmts cond both.0 _ (stmts-all body both.1) (λ more at rest. refl) (λ more at rest. refl);
}

-- what begins with "if"

pub if-no_else : (ts : Tokens) → is_if ts ≡ true → no_else ts ≡ true
if-no_else (tok.Key key.If ∷ ts) h = refl
if-no_else _ h = cc

if-wants : (more : Wants) (at : ℕ) (ts : Tokens) → is_if ts ≡ true → stop (want.stmts ∷ more) at ts ≡ stop (want.else_stmts ∷ want.stmts ∷ more) at ts
if-wants more at (tok.Key key.If ∷ ts) h = refl
if-wants more at _ h = cc

others-passed : (rest : Tokens) → no_else rest ≡ true → passed want.other_stmts rest ≡ true
others-passed (tok.Key key.Else ∷ rest) h = cc
others-passed _ h = refl

stmt_choice-passes : (arms : List A) (other : Option (List S)) → StmtPasses (elses (map stmt_arm_tokens (map (λ e. e.0) arms)) ++ optional else_block (option_map (map stmt_tokens) (option_map (map (λ e. e.0)) other))) ((has_first (map is_stmt_arm (map (λ e. e.0) arms)) && all_hold (map is_stmt_arm (map (λ e. e.0) arms))) && if_written all_hold (option_map (map is_stmt) (option_map (map (λ e. e.0)) other)))
stmt_choice-passes [] other = record {
  follows = λ h. absurd (false-true (and-true false (if_written all_hold (option_map (map is_stmt) (option_map (map (λ e. e.0)) other))) h).0);
  passes = λ h. absurd (false-true (and-true false (if_written all_hold (option_map (map is_stmt) (option_map (map (λ e. e.0)) other))) h).0);
}
stmt_choice-passes ((v, first) ∷ arms) None = record {
  follows = λ h rest. if-no_else _ (first-arm (stmt_arm_tokens v) first.begins _ [] rest);
  passes = λ h.
      let both = and-true (all_hold (map is_stmt_arm (map (λ e. e.0) ((v, first) ∷ arms)))) true h in
      choice_none-passes want.stmts want.other_stmts want.else_stmts (λ more at rest. refl) others-passed if-wants _ _ first.begins (arms-all ((v, first) ∷ arms) both.0);
}
stmt_choice-passes ((v, first) ∷ arms) (Some last) = record {
  follows = λ h rest. if-no_else _ (first-arm (stmt_arm_tokens v) first.begins _ (else_block (map stmt_tokens (map (λ e. e.0) last))) rest);
  passes = λ h.
      let both = and-true (all_hold (map is_stmt_arm (map (λ e. e.0) ((v, first) ∷ arms)))) (all_hold (map is_stmt (map (λ e. e.0) last))) h in
      choice_some-passes want.stmts want.other_stmts want.else_stmts (λ more at rest. refl) (λ more at rest. refl) if-wants (λ more at rest. refl) _ _ first.begins (arms-all ((v, first) ∷ arms) both.0) _ (stmts-all last both.1);
}

-- every statement

stmt-roll : (x : Stmt-F Stmt StmtArm) → StmtPasses (stmt_step (map-Stmt Stmt StmtArm Tokens Tokens stmt_tokens stmt_arm_tokens x)) (is_stmt_step (map-Stmt Stmt StmtArm Bool Bool is_stmt is_stmt_arm x)) → StmtClaim (roll-Stmt x)
stmt-roll x own = roll-claim StmtPasses _ _ _ _ (fold-roll-Stmt Tokens Tokens stmt_step stmt_arm_step x) (fold-roll-Stmt Bool Bool is_stmt_step is_stmt_arm_step x) own

arm-roll : (x : StmtArm-F Stmt StmtArm) → ArmPasses (stmt_arm_step (map-StmtArm Stmt StmtArm Tokens Tokens stmt_tokens stmt_arm_tokens x)) (is_stmt_arm_step (map-StmtArm Stmt StmtArm Bool Bool is_stmt is_stmt_arm x)) → ArmClaim (roll-StmtArm x)
arm-roll x own = roll-claim ArmPasses _ _ _ _ (fold-roll-StmtArm Tokens Tokens stmt_step stmt_arm_step x) (fold-roll-StmtArm Bool Bool is_stmt_step is_stmt_arm_step x) own

stmt-case : (y : Stmt-F S A) → StmtClaim (roll-Stmt (map-Stmt S A Stmt StmtArm (λ e. e.0) (λ e. e.0) y))
stmt-case (Stmt-F.Let mutable name value) = stmt-roll (Stmt-F.Let mutable name value) (let-passes mutable name value)
stmt-case (Stmt-F.Set name value) = stmt-roll (Stmt-F.Set name value) (assign-passes name value)
stmt-case (Stmt-F.Send port value) = stmt-roll (Stmt-F.Send port value) (send-passes port value)
stmt-case (Stmt-F.If arms None) = stmt-roll (Stmt-F.If (map (λ e. e.0) arms) None) (stmt_choice-passes arms None)
stmt-case (Stmt-F.If arms (Some last)) = stmt-roll (Stmt-F.If (map (λ e. e.0) arms) (Some (map (λ e. e.0) last))) (stmt_choice-passes arms (Some last))
stmt-case (Stmt-F.For name list body) = stmt-roll (Stmt-F.For name list (map (λ e. e.0) body)) (stmt_loop-passes name list body)

arm-case : (y : StmtArm-F S A) → ArmClaim (roll-StmtArm (map-StmtArm S A Stmt StmtArm (λ e. e.0) (λ e. e.0) y))
arm-case y = arm-roll (record { cond = y.cond; body = map (λ e. e.0) y.body }) (stmt_arm-passes y.cond y.body)

stmt-passes : (v : Stmt) → StmtClaim v
stmt-passes = ind-Stmt StmtClaim ArmClaim
    (λ x y is. subst (λ (z : Stmt-F Stmt StmtArm). StmtClaim (roll-Stmt z)) is (stmt-case y))
    (λ x y is. subst (λ (z : StmtArm-F Stmt StmtArm). ArmClaim (roll-StmtArm z)) is (arm-case y))

-- several statements of the grammar pass
pub stmts-pass : (list : List Stmt) → list_all is_stmt list ≡ true → AllLead no_else (want.stmts ∷ []) (map stmt_tokens list)
stmts-pass [] h = tt
stmts-pass (v ∷ list) h =
    let both = and-true (is_stmt v) (list_all is_stmt list) h in
    ((stmt-passes v).passes both.0, (stmt-passes v).follows both.0, stmts-pass list both.1)

pub stmts_block-passes : (list : List Stmt) → list_all is_stmt list ≡ true → (wants : Wants) → Leads any (want.mark sign.OpenBrace ∷ want.stmts ∷ want.mark sign.CloseBrace ∷ wants) wants (block_tokens (map stmt_tokens list))
stmts_block-passes list h wants = block-passes want.stmts wants _ (stmts-pass list h) (λ more at rest. refl)
