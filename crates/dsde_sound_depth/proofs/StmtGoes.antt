-- Each statement of the grammar leaves what is open as it is, and within it no more conditions are
-- open than nest in it.
use Rattle.std.proofs.Common.{◌≡◌, ℕ, Bool, true, List, [], ◌∷◌, ◌++◌, map, Some, None, subst, arith}
use Rattle.std.specs.Prelude.{◌&&◌}
use Rattle.dsde_syntax.specs.declared.token.Tok.TheVariants as tok
use Rattle.dsde_words.specs.declared.key.Key.TheVariants as key
use Rattle.dsde_syntax.specs.declared.token.Sign.TheVariants as sign
use Rattle.dsde_syntax.specs.declared.id.Id.{Id}
use Rattle.dsde_syntax.specs.declared.expr.Expr.{Expr}
use Rattle.dsde_syntax.specs.declared.stmt.Stmt.{Stmt}
use Rattle.dsde_syntax.specs.declared.stmt.StmtArm.{StmtArm}
use Rattle.dsde_syntax.specs.declared.stmt.Stmt.TheOpen.{Stmt-F, StmtArm-F}
use Rattle.dsde_syntax.specs.declared.stmt.Stmt.TheViews.{roll-Stmt, roll-StmtArm}
use Rattle.dsde_syntax.specs.declared.stmt.Stmt.TheFolds.{map-Stmt, map-StmtArm, fold-roll-Stmt, fold-roll-StmtArm, ind-Stmt}
use Rattle.dsde_syntax.specs.Grammar.{Tokens, word, mark, in_parens, expr_tokens, stmt_step, stmt_arm_step, stmt_tokens, stmt_arm_tokens}
use Rattle.dsde_syntax.specs.Levels.{has_first, all_hold, is_expr, is_stmt_step, is_stmt_arm_step, is_stmt, is_stmt_arm}
use Rattle.dsde_parser.specs.declared.depth.Last.TheVariants as last
use Rattle.dsde_parser.specs.Depth.{with_bracket}
use Rattle.dsde_sound_depth.proofs.Nests.{nest, stmt_nest_step, stmt_arm_nest_step, stmt_nest, stmt_arm_nest}
use Rattle.dsde_sound_depth.proofs.Going.{step, one, join}
use Rattle.dsde_sound_depth.proofs.Lists.{Goes-on, parens-go}
use Rattle.dsde_sound_depth.proofs.ExprParts.{both}
use Rattle.dsde_sound_depth.proofs.ExprGoes.{roll-claim}
use Rattle.dsde_sound_depth.proofs.Lines.{Line, GoodLine, AllLines, value-go, set-line, let-line, arm-line, choice-line, no-else, else-line, for-line}

-- "send" id "(" expr ")" ";"
send-line : (port : Id) (e : Expr) → is_expr e ≡ true → Line (nest e) (word key.Send ++ (tok.Ident port.name ∷ []) ++ in_parens (expr_tokens e) ++ mark sign.Semicolon)
send-line port e level = record {
  goes = λ brackets limit before clear few.
      let inside : Goes-on limit (with_bracket brackets 0) 0 last.Other (expr_tokens e) = record { after = last.Other; goes = value-go e level (with_bracket brackets 0) limit few } in
      record {
        after = last.Other;
        goes = step (tok.Key key.Send) (omega arith) (step (tok.Ident port.name) (omega arith) (join (parens-go brackets last.Other (omega arith) inside) (one (tok.Sign sign.Semicolon) (omega arith) (omega arith))));
      };
}

abbrev Claim : Stmt → Type 0
Claim s = GoodLine (is_stmt s) (stmt_tokens s) (stmt_nest s)

abbrev ArmClaim : StmtArm → Type 0
ArmClaim a = GoodLine (is_stmt_arm a) (stmt_arm_tokens a) (stmt_arm_nest a)

stmt-roll : (x : Stmt-F Stmt StmtArm) → GoodLine (is_stmt_step (map-Stmt Stmt StmtArm Bool Bool is_stmt is_stmt_arm x)) (stmt_step (map-Stmt Stmt StmtArm Tokens Tokens stmt_tokens stmt_arm_tokens x)) (stmt_nest_step (map-Stmt Stmt StmtArm ℕ ℕ stmt_nest stmt_arm_nest x)) → Claim (roll-Stmt x)
stmt-roll x own = roll-claim GoodLine _ _ _ _ _ _
    (fold-roll-Stmt Bool Bool is_stmt_step is_stmt_arm_step x)
    (fold-roll-Stmt Tokens Tokens stmt_step stmt_arm_step x)
    (fold-roll-Stmt ℕ ℕ stmt_nest_step stmt_arm_nest_step x) own

arm-roll : (x : StmtArm-F Stmt StmtArm) → GoodLine (is_stmt_arm_step (map-StmtArm Stmt StmtArm Bool Bool is_stmt is_stmt_arm x)) (stmt_arm_step (map-StmtArm Stmt StmtArm Tokens Tokens stmt_tokens stmt_arm_tokens x)) (stmt_arm_nest_step (map-StmtArm Stmt StmtArm ℕ ℕ stmt_nest stmt_arm_nest x)) → ArmClaim (roll-StmtArm x)
arm-roll x own = roll-claim GoodLine _ _ _ _ _ _
    (fold-roll-StmtArm Bool Bool is_stmt_step is_stmt_arm_step x)
    (fold-roll-StmtArm Tokens Tokens stmt_step stmt_arm_step x)
    (fold-roll-StmtArm ℕ ℕ stmt_nest_step stmt_arm_nest_step x) own

-- a part of a statement beside its claim
abbrev S : Type 0
S = (s : Stmt) × Claim s

abbrev A : Type 0
A = (a : StmtArm) × ArmClaim a

body-lines : (body : List S) → all_hold (map is_stmt (map (λ s. s.0) body)) ≡ true → AllLines (map stmt_nest (map (λ s. s.0) body)) (map stmt_tokens (map (λ s. s.0) body))
body-lines [] level = tt
body-lines ((s, own) ∷ body) level =
    let part = both (is_stmt s) (all_hold (map is_stmt (map (λ s. s.0) body))) level in
    (own.holds part.left, body-lines body part.right)

arms-lines : (arms : List A) → all_hold (map is_stmt_arm (map (λ a. a.0) arms)) ≡ true → AllLines (map stmt_arm_nest (map (λ a. a.0) arms)) (map stmt_arm_tokens (map (λ a. a.0) arms))
arms-lines [] level = tt
arms-lines ((a, own) ∷ arms) level =
    let part = both (is_stmt_arm a) (all_hold (map is_stmt_arm (map (λ a. a.0) arms))) level in
    (own.holds part.left, arms-lines arms part.right)

-- the arms of a choice of the grammar
choice-arms : (arms : List A) (other : Bool) → (has_first (map is_stmt_arm (map (λ a. a.0) arms)) && all_hold (map is_stmt_arm (map (λ a. a.0) arms)) && other) ≡ true → AllLines (map stmt_arm_nest (map (λ a. a.0) arms)) (map stmt_arm_tokens (map (λ a. a.0) arms))
choice-arms arms other level =
    let some : Bool = has_first (map is_stmt_arm (map (λ a. a.0) arms)) in
    let all : Bool = all_hold (map is_stmt_arm (map (λ a. a.0) arms)) in
    arms-lines arms (both some all (both (some && all) other level).left).right

stmt-case : (y : Stmt-F S A) → Claim (roll-Stmt (map-Stmt S A Stmt StmtArm (λ s. s.0) (λ a. a.0) y))
stmt-case (Stmt-F.Let mutable name e) = stmt-roll (Stmt-F.Let mutable name e) (record { holds = λ level. let-line mutable name e level })
stmt-case (Stmt-F.Set name e) = stmt-roll (Stmt-F.Set name e) (record { holds = λ level. set-line name e level })
stmt-case (Stmt-F.Send port e) = stmt-roll (Stmt-F.Send port e) (record { holds = λ level. send-line port e level })
stmt-case (Stmt-F.If arms None) = stmt-roll (Stmt-F.If (map (λ a. a.0) arms) None)
    (record { holds = λ level. choice-line _ _ (choice-arms arms true level) 0 [] no-else })
stmt-case (Stmt-F.If arms (Some body)) = stmt-roll (Stmt-F.If (map (λ a. a.0) arms) (Some (map (λ s. s.0) body)))
    (record {
      holds = λ level.
          let other : Bool = all_hold (map is_stmt (map (λ s. s.0) body)) in
          let placed = both (has_first (map is_stmt_arm (map (λ a. a.0) arms)) && all_hold (map is_stmt_arm (map (λ a. a.0) arms))) other level in
          choice-line _ _ (choice-arms arms other level) _ _ (else-line _ _ (body-lines body placed.right));
    })
stmt-case (Stmt-F.For name e body) = stmt-roll (Stmt-F.For name e (map (λ s. s.0) body))
    (record {
      holds = λ level.
          let placed = both (is_expr e) (all_hold (map is_stmt (map (λ s. s.0) body))) level in
          for-line name e placed.left _ _ (body-lines body placed.right);
    })

arm-case : (y : StmtArm-F S A) → ArmClaim (roll-StmtArm (map-StmtArm S A Stmt StmtArm (λ s. s.0) (λ a. a.0) y))
arm-case y = arm-roll (record { cond = y.cond; body = map (λ s. s.0) y.body })
    (record {
      holds = λ level.
          let placed = both (is_expr y.cond) (all_hold (map is_stmt (map (λ s. s.0) y.body))) level in
          arm-line y.cond placed.left _ _ (body-lines y.body placed.right);
    })

pub stmt-goes : (s : Stmt) → GoodLine (is_stmt s) (stmt_tokens s) (stmt_nest s)
stmt-goes = ind-Stmt Claim ArmClaim
    (λ x y is. subst (λ (z : Stmt-F Stmt StmtArm). Claim (roll-Stmt z)) is (stmt-case y))
    (λ x y is. subst (λ (z : StmtArm-F Stmt StmtArm). ArmClaim (roll-StmtArm z)) is (arm-case y))
