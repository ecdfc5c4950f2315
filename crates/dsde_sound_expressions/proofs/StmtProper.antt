-- Each statement of the grammar with plain tokens is proper.
use Rattle.std.proofs.Common.{◌≡◌, Bool, true, List, [], ◌++◌, map, Option, Some, None, refl, subst}
use Rattle.std.specs.Prelude.{◌&&◌}
use Rattle.std.specs.List.{list_all}
use Rattle.std.specs.Option.{option_map_or}
use Rattle.dsde_language.specs.given.words.key_Key_TheVariants as key
use Rattle.dsde_language.specs.given.syntax.token_Sign_TheVariants as sign
use Rattle.dsde_language.specs.given.syntax.id_Id.{Id}
use Rattle.dsde_language.specs.given.syntax.expr_Expr.{Expr}
use Rattle.dsde_language.specs.given.syntax.stmt_Stmt.{Stmt}
use Rattle.dsde_language.specs.given.syntax.stmt_StmtArm.{StmtArm}
use Rattle.dsde_language.specs.given.syntax.stmt_Stmt_TheOpen.{Stmt-F, StmtArm-F}
use Rattle.dsde_language.specs.given.syntax.stmt_Stmt_TheViews.{roll-Stmt, roll-StmtArm}
use Rattle.dsde_language.specs.given.syntax.stmt_Stmt_TheFolds.{fold-StmtArm, map-Stmt, map-StmtArm, fold-roll-Stmt, fold-roll-StmtArm, ind-Stmt}
use Rattle.dsde_language.specs.given.syntax.Grammar.{Tokens, word, mark, joined, elses, optional, block, else_block, expr_tokens, stmt_step, stmt_arm_step, stmt_tokens, stmt_arm_tokens}
use Rattle.dsde_language.specs.given.syntax.Levels.{has_first, all_hold, if_written, is_expr, is_stmt_step, is_stmt_arm_step, is_stmt, is_stmt_arm}
use Rattle.dsde_language.specs.Proper as proper
use Rattle.dsde_language.specs.Proper.{all_so, is_plain, is_proper, is_proper_stmt}
use Rattle.dsde_sound_expressions.proofs.Plain.{plain, both, and-true, cut, front-plain, flat-plain, join-plain, Holds, AllHold, all-hold}
use Rattle.dsde_sound_expressions.proofs.ExprProper.{roll-claim, expr-proper}

-- the parts of a block
pub block-plain : (parts : List Tokens) → plain (block parts) ≡ true → list_all plain parts ≡ true
block-plain parts tokens = flat-plain [] parts (front-plain (joined parts) (mark sign.CloseBrace) tokens)

-- an expression in front of tokens
pub value-proper : (e : Expr) (behind : Tokens) → is_expr e ≡ true → plain (expr_tokens e ++ behind) ≡ true → is_proper e ≡ true
value-proper e behind level tokens = (expr-proper e).holds level (front-plain (expr_tokens e) behind tokens)

let-good : (mutable : Bool) (name : Id) (e : Expr) → Holds (is_stmt_step (Stmt-F.Let mutable name e)) (stmt_step (Stmt-F.Let mutable name e)) (proper.stmt_step (Stmt-F.Let mutable name e))
let-good mutable name e = record {
  holds = λ level tokens.
      let own = both (is_plain name) (plain (expr_tokens e ++ mark sign.Semicolon)) tokens in
      and-true (is_plain name) (is_proper e) own.left (value-proper e (mark sign.Semicolon) level own.right);
}

set-good : (name : Id) (e : Expr) → Holds (is_stmt_step (Stmt-F.Set name e)) (stmt_step (Stmt-F.Set name e)) (proper.stmt_step (Stmt-F.Set name e))
set-good name e = record {
  holds = λ level tokens.
      let own = both (is_plain name) (plain (expr_tokens e ++ mark sign.Semicolon)) tokens in
      value-proper e (mark sign.Semicolon) level own.right;
}

send-good : (port : Id) (e : Expr) → Holds (is_stmt_step (Stmt-F.Send port e)) (stmt_step (Stmt-F.Send port e)) (proper.stmt_step (Stmt-F.Send port e))
send-good port e = record {
  holds = λ level tokens.
      let sent : Tokens = expr_tokens e ++ mark sign.CloseParen in
      let own = both (is_plain port) (plain (sent ++ mark sign.Semicolon)) tokens in
      value-proper e (mark sign.CloseParen) level (front-plain sent (mark sign.Semicolon) own.right);
}

-- the statements of `else`, which may be left out
pub record GoodElse (level : Option (List Bool)) (tokens : Option (List Tokens)) (own : Option (List Bool)) : Type 0 where
  pub holds : if_written all_hold level ≡ true → plain (optional else_block tokens) ≡ true → option_map_or all_so own true ≡ true

if-good : (ls : List Bool) (ts : List Tokens) (ps : List Bool) (lo : Option (List Bool)) (to : Option (List Tokens)) (po : Option (List Bool))
    → AllHold (λ holds. holds) (λ own. own) ls ts ps → GoodElse lo to po
    → Holds (is_stmt_step (Stmt-F.If ls lo)) (stmt_step (Stmt-F.If ts to)) (proper.stmt_step (Stmt-F.If ps po))
if-good ls ts ps lo to po arms other = record {
  holds = λ level tokens.
      let placed = both (has_first ls && all_hold ls) (if_written all_hold lo) level in
      let own = cut (elses ts) (optional else_block to) tokens in
      and-true (all_so ps) (option_map_or all_so po true)
      (arms.holds (both (has_first ls) (all_hold ls) placed.left).right (join-plain (word key.Else) ts own.left))
      (other.holds placed.right own.right);
}

pub else-good : (ls : List Bool) (ts : List Tokens) (ps : List Bool) → AllHold (λ holds. holds) (λ own. own) ls ts ps → GoodElse (Some ls) (Some ts) (Some ps)
else-good ls ts ps body = record { holds = λ level tokens. body.holds level (block-plain ts tokens) }

for-good : (name : Id) (e : Expr) (ls : List Bool) (ts : List Tokens) (ps : List Bool) → AllHold (λ holds. holds) (λ own. own) ls ts ps
    → Holds (is_stmt_step (Stmt-F.For name e ls)) (stmt_step (Stmt-F.For name e ts)) (proper.stmt_step (Stmt-F.For name e ps))
for-good name e ls ts ps body = record {
  holds = λ level tokens.
      let placed = both (is_expr e) (all_hold ls) level in
      let own = both (is_plain name) (plain (expr_tokens e ++ block ts)) tokens in
      let part = cut (expr_tokens e) (block ts) own.right in
      and-true (is_plain name) (is_proper e && all_so ps) own.left
      (and-true (is_proper e) (all_so ps) ((expr-proper e).holds placed.left part.left) (body.holds placed.right (block-plain ts part.right)));
}

arm-good : (e : Expr) (ls : List Bool) (ts : List Tokens) (ps : List Bool) → AllHold (λ holds. holds) (λ own. own) ls ts ps
    → Holds (is_stmt_arm_step (record { cond = e; body = ls })) (stmt_arm_step (record { cond = e; body = ts })) (proper.stmt_arm_step (record { cond = e; body = ps }))
arm-good e ls ts ps body = record {
  holds = λ level tokens.
      let placed = both (is_expr e) (all_hold ls) level in
      let part = cut (expr_tokens e) (block ts) tokens in
      and-true (is_proper e) (all_so ps) ((expr-proper e).holds placed.left part.left) (body.holds placed.right (block-plain ts part.right));
}

-- whether an arm is proper
abbrev proper_arm : StmtArm → Bool
proper_arm = fold-StmtArm Bool Bool proper.stmt_step proper.stmt_arm_step

abbrev Claim : Stmt → Type 0
Claim s = Holds (is_stmt s) (stmt_tokens s) (is_proper_stmt s)

abbrev ArmClaim : StmtArm → Type 0
ArmClaim a = Holds (is_stmt_arm a) (stmt_arm_tokens a) (proper_arm a)

stmt-roll : (x : Stmt-F Stmt StmtArm) → Holds (is_stmt_step (map-Stmt Stmt StmtArm Bool Bool is_stmt is_stmt_arm x)) (stmt_step (map-Stmt Stmt StmtArm Tokens Tokens stmt_tokens stmt_arm_tokens x)) (proper.stmt_step (map-Stmt Stmt StmtArm Bool Bool is_proper_stmt proper_arm x)) → Claim (roll-Stmt x)
stmt-roll x own = roll-claim Holds _ _ _ _ _ _
    (fold-roll-Stmt Bool Bool is_stmt_step is_stmt_arm_step x)
    (fold-roll-Stmt Tokens Tokens stmt_step stmt_arm_step x)
    (fold-roll-Stmt Bool Bool proper.stmt_step proper.stmt_arm_step x) own

arm-roll : (x : StmtArm-F Stmt StmtArm) → Holds (is_stmt_arm_step (map-StmtArm Stmt StmtArm Bool Bool is_stmt is_stmt_arm x)) (stmt_arm_step (map-StmtArm Stmt StmtArm Tokens Tokens stmt_tokens stmt_arm_tokens x)) (proper.stmt_arm_step (map-StmtArm Stmt StmtArm Bool Bool is_proper_stmt proper_arm x)) → ArmClaim (roll-StmtArm x)
arm-roll x own = roll-claim Holds _ _ _ _ _ _
    (fold-roll-StmtArm Bool Bool is_stmt_step is_stmt_arm_step x)
    (fold-roll-StmtArm Tokens Tokens stmt_step stmt_arm_step x)
    (fold-roll-StmtArm Bool Bool proper.stmt_step proper.stmt_arm_step x) own

-- a part of a statement beside its claim
abbrev S : Type 0
S = (s : Stmt) × Claim s

abbrev A : Type 0
A = (a : StmtArm) × ArmClaim a

stmts-hold : (body : List S) → AllHold (λ holds. holds) (λ own. own) (map is_stmt (map (λ s. s.0) body)) (map stmt_tokens (map (λ s. s.0) body)) (map is_proper_stmt (map (λ s. s.0) body))
stmts-hold body = all-hold (λ (s : S). s.0) stmt_tokens is_stmt is_proper_stmt (λ holds. holds) (λ own. own) (λ s. s.1) body

arms-hold : (arms : List A) → AllHold (λ holds. holds) (λ own. own) (map is_stmt_arm (map (λ a. a.0) arms)) (map stmt_arm_tokens (map (λ a. a.0) arms)) (map proper_arm (map (λ a. a.0) arms))
arms-hold arms = all-hold (λ (a : A). a.0) stmt_arm_tokens is_stmt_arm proper_arm (λ holds. holds) (λ own. own) (λ a. a.1) arms

stmt-case : (y : Stmt-F S A) → Claim (roll-Stmt (map-Stmt S A Stmt StmtArm (λ s. s.0) (λ a. a.0) y))
stmt-case (Stmt-F.Let mutable name e) = stmt-roll (Stmt-F.Let mutable name e) (let-good mutable name e)
stmt-case (Stmt-F.Set name e) = stmt-roll (Stmt-F.Set name e) (set-good name e)
stmt-case (Stmt-F.Send port e) = stmt-roll (Stmt-F.Send port e) (send-good port e)
stmt-case (Stmt-F.If arms None) = stmt-roll (Stmt-F.If (map (λ a. a.0) arms) None)
    (if-good _ _ _ None None None (arms-hold arms) (record { holds = λ level tokens. refl }))
stmt-case (Stmt-F.If arms (Some body)) = stmt-roll (Stmt-F.If (map (λ a. a.0) arms) (Some (map (λ s. s.0) body)))
    (if-good _ _ _ _ _ _ (arms-hold arms) (else-good _ _ _ (stmts-hold body)))
stmt-case (Stmt-F.For name e body) = stmt-roll (Stmt-F.For name e (map (λ s. s.0) body)) (for-good name e _ _ _ (stmts-hold body))

arm-case : (y : StmtArm-F S A) → ArmClaim (roll-StmtArm (map-StmtArm S A Stmt StmtArm (λ s. s.0) (λ a. a.0) y))
arm-case y = arm-roll (record { cond = y.cond; body = map (λ s. s.0) y.body }) (arm-good y.cond _ _ _ (stmts-hold y.body))

pub stmt-proper : (s : Stmt) → Holds (is_stmt s) (stmt_tokens s) (is_proper_stmt s)
stmt-proper = ind-Stmt Claim ArmClaim
    (λ x y is. subst (λ (z : Stmt-F Stmt StmtArm). Claim (roll-Stmt z)) is (stmt-case y))
    (λ x y is. subst (λ (z : StmtArm-F Stmt StmtArm). ArmClaim (roll-StmtArm z)) is (arm-case y))
