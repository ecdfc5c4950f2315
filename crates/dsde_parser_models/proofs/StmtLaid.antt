-- The places in statements can be laid.
use Rattle.std.proofs.Common.{◌≡◌, Bool, true, ◌&&◌, List, map, None, Some, refl, ap, subst, ◌∙◌}
use Rattle.std.specs.Prelude.{ℕ, if◌then◌else◌}
use Rattle.dsde_syntax.specs.declared.token.Tok.TheVariants as tok
use Rattle.dsde_words.specs.declared.key.Key.TheVariants as key
use Rattle.dsde_syntax.specs.declared.token.Sign.TheVariants as sign
use Rattle.dsde_syntax.specs.declared.id.Id.{Id}
use Rattle.dsde_syntax.specs.declared.expr.Expr.{Expr}
use Rattle.dsde_syntax.specs.declared.stmt.Stmt.{Stmt}
use Rattle.dsde_syntax.specs.declared.stmt.StmtArm.{StmtArm}
use Rattle.dsde_syntax.specs.declared.stmt.Stmt.TheOpen.{Stmt-F, StmtArm-F}
use Rattle.dsde_syntax.specs.declared.stmt.Stmt.TheViews.{roll-Stmt, roll-StmtArm}
use Rattle.dsde_syntax.specs.declared.stmt.Stmt.TheFolds.{map-Stmt, map-StmtArm, fold-roll-Stmt, fold-roll-StmtArm, ind-Stmt}
use Rattle.dsde_syntax.specs.Grammar.{Tokens, set_tokens, for_tokens, if_tokens, elses, block, stmt_step, stmt_arm_step, stmt_tokens, stmt_arm_tokens}
use Rattle.dsde_syntax.specs.Levels.{has_first, all_hold, is_expr, is_stmt_step, is_stmt_arm_step, is_stmt, is_stmt_arm}
use Rattle.dsde_syntax.specs.Places.{Span, ◌>>◌, token, expr_span, set_span, for_span, block_span, spans_with, stmt_span_step, stmt_arm_span_step, stmt_span, stmt_arm_span}
use Rattle.dsde_parser_models.proofs.Laying.{Lays, made, nothing, ident, both, behind, before, within, each, separated}
use Rattle.dsde_parser_models.proofs.ExprLaid.{whole-laid}

-- id "=" expr ";"
pub set-laid : (name : Id) (value : Expr) → Lays (λ (v : Id × Expr). set_tokens v.0 v.1) (λ (v : Id × Expr). is_expr v.1) (λ (v : Id × Expr). set_span v.0 v.1) (name, value)
set-laid name value =
    made (λ (v : Id × Expr). set_tokens v.0 v.1) (λ (v : Id × Expr). is_expr v.1) (λ (v : Id × Expr). set_span v.0 v.1)
    (before (both (before (ident name) (tok.Sign sign.Equal)) (whole-laid value)) (tok.Sign sign.Semicolon)) (λ v. v) (λ k. k.1) (λ v. refl) (λ v. refl) (λ v at. refl)

-- "for" id "in" expr
pub for-laid : (name : Id) (list : Expr) → Lays (λ (v : Id × Expr). for_tokens v.0 v.1) (λ (v : Id × Expr). is_expr v.1) (λ (v : Id × Expr). for_span v.0 v.1) (name, list)
for-laid name list =
    made (λ (v : Id × Expr). for_tokens v.0 v.1) (λ (v : Id × Expr). is_expr v.1) (λ (v : Id × Expr). for_span v.0 v.1)
    (both (before (behind (tok.Key key.For) (ident name)) (tok.Key key.In)) (whole-laid list)) (λ v. v) (λ k. k.1) (λ v. refl) (λ v. refl) (λ v at. refl)

-- "if" expr
pub if-laid : (cond : Expr) → Lays if_tokens is_expr (λ cond. token >> expr_span cond) cond
if-laid cond = behind (tok.Key key.If) (whole-laid cond)

-- {part} in braces
pub block-laid : {A C : Type 0} (t : A → Tokens) (k : A → Bool) (s : A → Span) (value : C → A) → ((c : C) → Lays t k s (value c)) → (list : List C) → Lays (λ vs. block (map t vs)) (map k) (λ vs. block_span (map s vs)) (map value list)
block-laid t k s value own list = within (tok.Sign sign.OpenBrace) (tok.Sign sign.CloseBrace) (each (λ part. part) t k s value own list)

abbrev StmtLaid : Stmt → Type 0
StmtLaid v = Lays stmt_tokens is_stmt stmt_span v

abbrev ArmLaid : StmtArm → Type 0
ArmLaid v = Lays stmt_arm_tokens is_stmt_arm stmt_arm_span v

stmt-made : {A K : Type 0} {t : A → Tokens} {k : A → K} {s : A → Span} {own : A} → Lays t k s own → (f : A → Stmt-F Stmt StmtArm) (g : K → Bool) → ((v : A) → stmt_step (map-Stmt Stmt StmtArm Tokens Tokens stmt_tokens stmt_arm_tokens (f v)) ≡ t v) → ((v : A) → is_stmt_step (map-Stmt Stmt StmtArm Bool Bool is_stmt is_stmt_arm (f v)) ≡ g (k v)) → ((v : A) (at : ℕ) → stmt_span_step (map-Stmt Stmt StmtArm Span Span stmt_span stmt_arm_span (f v)) at ≡ s v at) → StmtLaid (roll-Stmt (f own))
stmt-made laid f g spells stands right =
    made stmt_tokens is_stmt stmt_span laid (λ v. roll-Stmt (f v)) g
    (λ v. fold-roll-Stmt Tokens Tokens stmt_step stmt_arm_step (f v) ∙ spells v)
    (λ v. fold-roll-Stmt Bool Bool is_stmt_step is_stmt_arm_step (f v) ∙ stands v)
    (λ v at. ap (λ (own : Span). own at) (fold-roll-Stmt Span Span stmt_span_step stmt_arm_span_step (f v)) ∙ right v at)

arm-made : {A K : Type 0} {t : A → Tokens} {k : A → K} {s : A → Span} {own : A} → Lays t k s own → (f : A → StmtArm-F Stmt StmtArm) (g : K → Bool) → ((v : A) → stmt_arm_step (map-StmtArm Stmt StmtArm Tokens Tokens stmt_tokens stmt_arm_tokens (f v)) ≡ t v) → ((v : A) → is_stmt_arm_step (map-StmtArm Stmt StmtArm Bool Bool is_stmt is_stmt_arm (f v)) ≡ g (k v)) → ((v : A) (at : ℕ) → stmt_arm_span_step (map-StmtArm Stmt StmtArm Span Span stmt_span stmt_arm_span (f v)) at ≡ s v at) → ArmLaid (roll-StmtArm (f own))
arm-made laid f g spells stands right =
    made stmt_arm_tokens is_stmt_arm stmt_arm_span laid (λ v. roll-StmtArm (f v)) g
    (λ v. fold-roll-StmtArm Tokens Tokens stmt_step stmt_arm_step (f v) ∙ spells v)
    (λ v. fold-roll-StmtArm Bool Bool is_stmt_step is_stmt_arm_step (f v) ∙ stands v)
    (λ v at. ap (λ (own : Span). own at) (fold-roll-StmtArm Span Span stmt_span_step stmt_arm_span_step (f v)) ∙ right v at)

-- a part beside its claim
abbrev S : Type 0
S = (v : Stmt) × StmtLaid v

abbrev A : Type 0
A = (v : StmtArm) × ArmLaid v

body : (list : List S) → Lays (λ vs. block (map stmt_tokens vs)) (map is_stmt) (λ vs. block_span (map stmt_span vs)) (map (λ e. e.0) list)
body = block-laid stmt_tokens is_stmt stmt_span (λ e. e.0) (λ e. e.1)

chosen : (arms : List A) → Lays (λ vs. elses (map stmt_arm_tokens vs)) (map is_stmt_arm) (λ vs. spans_with token (map stmt_arm_span vs)) (map (λ e. e.0) arms)
chosen = separated (tok.Key key.Else) stmt_arm_tokens is_stmt_arm stmt_arm_span (λ e. e.0) (λ e. e.1)

stmt-case : (y : Stmt-F S A) → StmtLaid (roll-Stmt (map-Stmt S A Stmt StmtArm (λ e. e.0) (λ e. e.0) y))
stmt-case (Stmt-F.Let mutable name value) =
    stmt-made (behind (tok.Key (if mutable then key.Var else key.Let)) (set-laid name value)) (λ v. Stmt-F.Let mutable v.0 v.1) (λ k. k) (λ v. refl) (λ v. refl) (λ v at. refl)
stmt-case (Stmt-F.Set name value) = stmt-made (set-laid name value) (λ v. Stmt-F.Set v.0 v.1) (λ k. k) (λ v. refl) (λ v. refl) (λ v at. refl)
stmt-case (Stmt-F.Send port value) =
    stmt-made (before (both (behind (tok.Key key.Send) (ident port)) (within (tok.Sign sign.OpenParen) (tok.Sign sign.CloseParen) (whole-laid value))) (tok.Sign sign.Semicolon))
    (λ v. Stmt-F.Send v.0 v.1) (λ k. k.1) (λ v. refl) (λ v. refl) (λ v at. refl)
stmt-case (Stmt-F.If arms None) = stmt-made (both (chosen arms) nothing) (λ v. Stmt-F.If v.0 None) (λ k. has_first k.0 && all_hold k.0 && true) (λ v. refl) (λ v. refl) (λ v at. refl)
stmt-case (Stmt-F.If arms (Some other)) =
    stmt-made (both (chosen arms) (behind (tok.Key key.Else) (body other))) (λ v. Stmt-F.If v.0 (Some v.1)) (λ k. has_first k.0 && all_hold k.0 && all_hold k.1) (λ v. refl) (λ v. refl) (λ v at. refl)
stmt-case (Stmt-F.For name list inner) =
    stmt-made (both (for-laid name list) (body inner)) (λ v. Stmt-F.For v.0.0 v.0.1 v.1) (λ k. k.0 && all_hold k.1) (λ v. refl) (λ v. refl) (λ v at. refl)

arm-case : (y : StmtArm-F S A) → ArmLaid (roll-StmtArm (map-StmtArm S A Stmt StmtArm (λ e. e.0) (λ e. e.0) y))
arm-case y = arm-made (both (if-laid y.cond) (body y.body)) (λ v. record { cond = v.0; body = v.1 }) (λ k. k.0 && all_hold k.1) (λ v. refl) (λ v. refl) (λ v at. refl)

pub stmt-laid : (v : Stmt) → Lays stmt_tokens is_stmt stmt_span v
stmt-laid = ind-Stmt StmtLaid ArmLaid
    (λ x y is. subst (λ (z : Stmt-F Stmt StmtArm). StmtLaid (roll-Stmt z)) is (stmt-case y))
    (λ x y is. subst (λ (z : StmtArm-F Stmt StmtArm). ArmLaid (roll-StmtArm z)) is (arm-case y))
