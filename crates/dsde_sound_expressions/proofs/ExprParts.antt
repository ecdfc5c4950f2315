-- Each construct of an expression is proper where its parts are.
use Rattle.std.proofs.Common.{◌≡◌, ℕ, Bool, true, List, [], ◌++◌, Option, arith}
use Rattle.std.specs.Prelude.{◌≤◌, ◌^◌, ◌&&◌, nat_lt, flat_map}
use Rattle.std.specs.List.{list_all}
use Rattle.dsde_language.specs.given.words.key_Key.{Key}
use Rattle.dsde_language.specs.given.words.key_Key_TheVariants as key
use Rattle.dsde_language.specs.given.syntax.token_Sign.{Sign}
use Rattle.dsde_language.specs.given.syntax.token_Sign_TheVariants as sign
use Rattle.dsde_language.specs.given.syntax.id_Id.{Id}
use Rattle.dsde_language.specs.given.syntax.expr_Expr_TheOpen.{Expr-F, Suffix-F}
use Rattle.dsde_language.specs.given.syntax.Grammar.{Tokens, word, mark, joined, commas, elses, optional, in_braces, expr_step, suffix_step, expr_arm_step, field_set_step, sign_tail_step}
use Rattle.dsde_language.specs.given.syntax.Levels.{stands_at, has_first, all_hold, if_written, may_follow, is_comparison, is_sum_sign, is_mul_sign, is_builtin, level_step, suffix_level_step, expr_arm_level_step, field_set_level_step, sign_tail_level_step}
use Rattle.dsde_language.specs.Proper as proper
use Rattle.dsde_language.specs.Proper.{Signed, if_there, all_so, is_plain, proper_step}
use Rattle.dsde_sound_expressions.proofs.Plain.{plain, both, and-true, cut, front-plain, flat-plain, join-plain, level-is, stands, Holds, AllHold}

-- an expression of some level
pub record Good (level : ℕ) (tokens : Tokens) (own : Bool) : Type 0 where
  pub holds : stands_at 9 level ≡ true → plain tokens ≡ true → own ≡ true

-- a sign and what stands behind it, for each choice of signs
pub record GoodSigned (tail : Sign × ℕ) (tokens : Tokens) (own : Signed) : Type 0 where
  pub signed : (is_operator : Sign → Bool) (place : ℕ) → place ≤ 9 → may_follow is_operator place tail ≡ true → plain tokens ≡ true → own is_operator ≡ true

-- a node of two parts, which may stand at a level
module _ (l1 l2 : ℕ) (t1 t2 : Tokens) (p1 p2 : Bool) (one : Good l1 t1 p1) (two : Good l2 t2 p2) where
  pub or_else-good : (at : ℕ) → Good (level_step (Expr-F.OrElse at l1 l2)) (expr_step (Expr-F.OrElse at t1 t2)) (proper_step (Expr-F.OrElse at p1 p2))
  or_else-good at = record {
    holds = λ level tokens.
        let placed = both (stands_at 8 l1) (stands_at 8 l2) (level-is _ 9 level) in
        let part = cut (t1 ++ mark sign.QuestionQuestion) t2 tokens in
        and-true p1 p2 (one.holds (stands 8 (omega arith) l1 placed.left) (front-plain t1 (mark sign.QuestionQuestion) part.left)) (two.holds (stands 8 (omega arith) l2 placed.right) part.right);
  }

  pub compare-good : (which : Sign) (at : ℕ) → Good (level_step (Expr-F.Compare which at l1 l2)) (expr_step (Expr-F.Compare which at t1 t2)) (proper_step (Expr-F.Compare which at p1 p2))
  compare-good which at = record {
    holds = λ level tokens.
        let placed = both (is_comparison which && stands_at 4 l1) (stands_at 4 l2) (level-is _ 5 level) in
        let first = both (is_comparison which) (stands_at 4 l1) placed.left in
        let part = cut (t1 ++ mark which) t2 tokens in
        and-true (is_comparison which) (p1 && p2) first.left
        (and-true p1 p2 (one.holds (stands 4 (omega arith) l1 first.right) (front-plain t1 (mark which) part.left)) (two.holds (stands 4 (omega arith) l2 placed.right) part.right));
  }

  pub expr_arm-good : Holds (expr_arm_level_step (record { cond = l1; value = l2 })) (expr_arm_step (record { cond = t1; value = t2 })) (proper.arm_step (record { cond = p1; value = p2 }))
  expr_arm-good = record {
    holds = λ level tokens.
        let placed = both (stands_at 9 l1) (stands_at 9 l2) level in
        let part = cut t1 (in_braces t2) tokens in
        and-true p1 p2 (one.holds placed.left part.left) (two.holds placed.right (front-plain t2 (mark sign.CloseBrace) part.right));
  }

-- a node of one part
module _ (l : ℕ) (t : Tokens) (p : Bool) (part : Good l t p) where
  pub not-good : (at : ℕ) → Good (level_step (Expr-F.Not at l)) (expr_step (Expr-F.Not at t)) (proper_step (Expr-F.Not at p))
  not-good at = record {
    holds = λ level tokens.
        part.holds (stands 5 (omega arith) l (level-is _ 6 level)) tokens;
  }

  pub neg-good : (at : ℕ) → Good (level_step (Expr-F.Neg at l)) (expr_step (Expr-F.Neg at t)) (proper_step (Expr-F.Neg at p))
  neg-good at = record {
    holds = λ level tokens.
        part.holds (stands 1 (omega arith) l (level-is _ 2 level)) tokens;
  }

  pub paren-good : (at : ℕ) → Good (level_step (Expr-F.Paren at l)) (expr_step (Expr-F.Paren at t)) (proper_step (Expr-F.Paren at p))
  paren-good at = record {
    holds = λ level tokens.
        part.holds (level-is _ 0 level) (front-plain t (mark sign.CloseParen) tokens);
  }

  pub index-good : (at : ℕ) → Holds (suffix_level_step (Suffix-F.Index at l)) (suffix_step (Suffix-F.Index at t)) (proper.suffix_step (Suffix-F.Index at p))
  index-good at = record {
    holds = λ level tokens.
        part.holds level (front-plain t (mark sign.CloseBracket) tokens);
  }

  pub field_set-good : (name : Id) → Holds (field_set_level_step (record { name = name; value = l })) (field_set_step (record { name = name; value = t })) (proper.set_step (record { name = name; value = p }))
  field_set-good name = record {
    holds = λ level tokens.
        part.holds level (both (is_plain name) (plain t) tokens).right;
  }

  pub sign_tail-good : (which : Sign) (at : ℕ) → GoodSigned (sign_tail_level_step (record { sign = which; at = at; value = l })) (sign_tail_step (record { sign = which; at = at; value = t })) (proper.sign_tail_step (record { sign = which; at = at; value = p }))
  sign_tail-good which at = record {
    signed = λ is_operator place less level tokens.
        let placed = both (is_operator which) (stands_at place l) level in
        and-true (is_operator which) p placed.left (part.holds (stands place less l placed.right) tokens);
  }

  -- a node of one part and several behind it
  pub or-good : (ls : List ℕ) (ts : List Tokens) (ps : List Bool) → AllHold (stands_at 7) (λ own. own) ls ts ps
      → Good (level_step (Expr-F.Or l ls)) (expr_step (Expr-F.Or t ts)) (proper_step (Expr-F.Or p ps))
  or-good ls ts ps rest = record {
    holds = λ level tokens.
        let placed = both (stands_at 7 l && has_first ls) (list_all (stands_at 7) ls) (level-is _ 8 level) in
        let first = both (stands_at 7 l) (has_first ls) placed.left in
        let own = cut t (flat_map (λ value. word key.Or ++ value) ts) tokens in
        and-true p (all_so ps) (part.holds (stands 7 (omega arith) l first.left) own.left) (rest.holds placed.right (flat-plain (word key.Or) ts own.right));
  }

  pub and-good : (ls : List ℕ) (ts : List Tokens) (ps : List Bool) → AllHold (stands_at 6) (λ own. own) ls ts ps
      → Good (level_step (Expr-F.And l ls)) (expr_step (Expr-F.And t ts)) (proper_step (Expr-F.And p ps))
  and-good ls ts ps rest = record {
    holds = λ level tokens.
        let placed = both (stands_at 6 l && has_first ls) (list_all (stands_at 6) ls) (level-is _ 7 level) in
        let first = both (stands_at 6 l) (has_first ls) placed.left in
        let own = cut t (flat_map (λ value. word key.And ++ value) ts) tokens in
        and-true p (all_so ps) (part.holds (stands 6 (omega arith) l first.left) own.left) (rest.holds placed.right (flat-plain (word key.And) ts own.right));
  }

  pub sum-good : (ls : List (Sign × ℕ)) (ts : List Tokens) (ps : List Signed) → AllHold (may_follow is_sum_sign 3) (λ (tail : Signed). tail is_sum_sign) ls ts ps
      → Good (level_step (Expr-F.Sum l ls)) (expr_step (Expr-F.Sum t ts)) (proper_step (Expr-F.Sum p ps))
  sum-good ls ts ps rest = record {
    holds = λ level tokens.
        let placed = both (stands_at 3 l && has_first ls) (list_all (may_follow is_sum_sign 3) ls) (level-is _ 4 level) in
        let first = both (stands_at 3 l) (has_first ls) placed.left in
        let own = cut t (joined ts) tokens in
        and-true p (list_all (λ (tail : Signed). tail is_sum_sign) ps) (part.holds (stands 3 (omega arith) l first.left) own.left) (rest.holds placed.right (flat-plain [] ts own.right));
  }

  pub mul-good : (ls : List (Sign × ℕ)) (ts : List Tokens) (ps : List Signed) → AllHold (may_follow is_mul_sign 2) (λ (tail : Signed). tail is_mul_sign) ls ts ps
      → Good (level_step (Expr-F.Mul l ls)) (expr_step (Expr-F.Mul t ts)) (proper_step (Expr-F.Mul p ps))
  mul-good ls ts ps rest = record {
    holds = λ level tokens.
        let placed = both (stands_at 2 l && has_first ls) (list_all (may_follow is_mul_sign 2) ls) (level-is _ 3 level) in
        let first = both (stands_at 2 l) (has_first ls) placed.left in
        let own = cut t (joined ts) tokens in
        and-true p (list_all (λ (tail : Signed). tail is_mul_sign) ps) (part.holds (stands 2 (omega arith) l first.left) own.left) (rest.holds placed.right (flat-plain [] ts own.right));
  }

  pub post-good : (ls : List Bool) (ts : List Tokens) (ps : List Bool) → AllHold (λ holds. holds) (λ own. own) ls ts ps
      → Good (level_step (Expr-F.Post l ls)) (expr_step (Expr-F.Post t ts)) (proper_step (Expr-F.Post p ps))
  post-good ls ts ps rest = record {
    holds = λ level tokens.
        let placed = both (stands_at 0 l && has_first ls) (all_hold ls) (level-is _ 1 level) in
        let first = both (stands_at 0 l) (has_first ls) placed.left in
        let own = cut t (joined ts) tokens in
        and-true p (all_so ps) (part.holds (stands 0 (omega arith) l first.left) own.left) (rest.holds placed.right (flat-plain [] ts own.right));
  }

  pub if-good : (at : ℕ) (ls : List Bool) (ts : List Tokens) (ps : List Bool) → AllHold (λ holds. holds) (λ own. own) ls ts ps
      → (has_first ls ≡ true → has_first ps ≡ true)
      → Good (level_step (Expr-F.If at ls l)) (expr_step (Expr-F.If at ts t)) (proper_step (Expr-F.If at ps p))
  if-good at ls ts ps arms some = record {
    holds = λ level tokens.
        let placed = both (has_first ls && all_hold ls) (stands_at 9 l) (level-is _ 0 level) in
        let first = both (has_first ls) (all_hold ls) placed.left in
        let own = cut (elses ts ++ word key.Else) (in_braces t) tokens in
        and-true (has_first ps) (all_so ps && p) (some first.left)
        (and-true (all_so ps) p (arms.holds first.right (join-plain (word key.Else) ts (front-plain (elses ts) (word key.Else) own.left))) (part.holds placed.right (front-plain t (mark sign.CloseBrace) own.right)));
  }

-- a node of a list of parts
module _ (ls : List ℕ) (ts : List Tokens) (ps : List Bool) (parts : AllHold (stands_at 9) (λ own. own) ls ts ps) where
  pub call-good : (name : Id) → Good (level_step (Expr-F.Call name ls)) (expr_step (Expr-F.Call name ts)) (proper_step (Expr-F.Call name ps))
  call-good name = record {
    holds = λ level tokens.
        let own = both (is_plain name) (plain (commas ts ++ mark sign.CloseParen)) tokens in
        parts.holds (level-is _ 0 level) (join-plain (mark sign.Comma) ts (front-plain (commas ts) (mark sign.CloseParen) own.right));
  }

  pub builtin-good : (which : Key) (at : ℕ) → Good (level_step (Expr-F.Builtin which at ls)) (expr_step (Expr-F.Builtin which at ts)) (proper_step (Expr-F.Builtin which at ps))
  builtin-good which at = record {
    holds = λ level tokens.
        let placed = both (is_builtin which) (list_all (stands_at 9) ls) (level-is _ 0 level) in
        and-true (is_builtin which) (all_so ps) placed.left (parts.holds placed.right (join-plain (mark sign.Comma) ts (front-plain (commas ts) (mark sign.CloseParen) tokens)));
  }

  pub list-good : (at : ℕ) → Good (level_step (Expr-F.List at ls)) (expr_step (Expr-F.List at ts)) (proper_step (Expr-F.List at ps))
  list-good at = record {
    holds = λ level tokens.
        let placed = both (has_first ls) (list_all (stands_at 9) ls) (level-is _ 0 level) in
        parts.holds placed.right (join-plain (mark sign.Comma) ts (front-plain (commas ts) (mark sign.CloseBracket) tokens));
  }

pub new-good : (at : ℕ) (owner : Id) (ls : List Bool) (ts : List Tokens) (ps : List Bool) → AllHold (λ holds. holds) (λ own. own) ls ts ps
    → Good (level_step (Expr-F.New at owner ls)) (expr_step (Expr-F.New at owner ts)) (proper_step (Expr-F.New at owner ps))
new-good at owner ls ts ps sets = record {
  holds = λ level tokens.
      let placed = both (has_first ls) (all_hold ls) (level-is _ 0 level) in
      let own = both (is_plain owner) (plain (commas ts ++ mark sign.CloseBrace)) tokens in
      sets.holds placed.right (join-plain (mark sign.Comma) ts (front-plain (commas ts) (mark sign.CloseBrace) own.right));
}

pub number-good : (at value : ℕ) → Good (level_step (Expr-F.Number at value)) (expr_step (Expr-F.Number at value)) (proper_step (Expr-F.Number at value))
number-good at value = record {
  holds = λ level tokens.
      (both (nat_lt value (2 ^ 63)) true tokens).left;
}

-- a condition that may be left out
abbrev pub GoodCond : Option ℕ → Option Tokens → Option Bool → Type 0
GoodCond level tokens own = Holds (if_written (stands_at 9) level) (optional (λ test. word key.If ++ test) tokens) (if_there own)

pub each-good : (at : ℕ) (name : Id) (l1 l2 : ℕ) (t1 t2 : Tokens) (p1 p2 : Bool) (lc : Option ℕ) (tc : Option Tokens) (pc : Option Bool)
    → Good l1 t1 p1 → GoodCond lc tc pc → Good l2 t2 p2
    → Good (level_step (Expr-F.Each at name l1 lc l2)) (expr_step (Expr-F.Each at name t1 tc t2)) (proper_step (Expr-F.Each at name p1 pc p2))
each-good at name l1 l2 t1 t2 p1 p2 lc tc pc list cond value = record {
  holds = λ level tokens.
      let test : Tokens = optional (λ test. word key.If ++ test) tc in
      let placed = both (stands_at 9 l1 && if_written (stands_at 9) lc) (stands_at 9 l2) (level-is _ 0 level) in
      let first = both (stands_at 9 l1) (if_written (stands_at 9) lc) placed.left in
      let listed : Tokens = t1 ++ test ++ mark sign.Colon ++ t2 in
      let own = both (is_plain name) (plain (listed ++ mark sign.CloseBracket)) tokens in
      let last = cut (t1 ++ test ++ mark sign.Colon) t2 (front-plain listed (mark sign.CloseBracket) own.right) in
      let inner = cut t1 test (front-plain (t1 ++ test) (mark sign.Colon) last.left) in
      and-true (is_plain name) (p1 && (if_there pc && p2)) own.left
      (and-true p1 (if_there pc && p2) (list.holds first.left inner.left)
      (and-true (if_there pc) p2 (cond.holds first.right inner.right) (value.holds placed.right last.right)));
}
