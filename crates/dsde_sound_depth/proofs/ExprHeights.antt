-- No expression in which nothing is wrong is lower than its conditions nest: each is made of parts of
-- which this is so.
use Rattle.std.proofs.Common.{◌≡◌, ℕ, List, [], ◌∷◌, map, Some, None, refl, sym, subst}
use Rattle.dsde_syntax.specs.declared.expr.Expr.{Expr}
use Rattle.dsde_syntax.specs.declared.expr.Suffix.{Suffix}
use Rattle.dsde_syntax.specs.declared.expr.ExprArm.{ExprArm}
use Rattle.dsde_syntax.specs.declared.expr.FieldSet.{FieldSet}
use Rattle.dsde_syntax.specs.declared.expr.SignTail.{SignTail}
use Rattle.dsde_syntax.specs.declared.expr.Tail.{Tail}
use Rattle.dsde_syntax.specs.declared.expr.Expr.TheOpen.{Expr-F, Suffix-F, ExprArm-F, FieldSet-F, SignTail-F, Tail-F}
use Rattle.dsde_syntax.specs.declared.expr.Expr.TheViews.{roll-Expr, roll-Suffix, roll-ExprArm, roll-FieldSet, roll-SignTail, roll-Tail}
use Rattle.dsde_syntax.specs.declared.expr.Expr.TheFolds.{fold-Suffix, fold-ExprArm, fold-FieldSet, fold-SignTail, fold-Tail, map-Expr, map-Suffix, map-ExprArm, map-FieldSet, map-SignTail, map-Tail, fold-roll-Expr, fold-roll-Suffix, fold-roll-ExprArm, fold-roll-FieldSet, fold-roll-SignTail, fold-roll-Tail, ind-Expr}
use Rattle.dsde_language.specs.declared.known.Around.{Around}
use Rattle.dsde_language.specs.Judge as rules
use Rattle.dsde_language.specs.Judge.{Judge, Link, Guarded, SetJudge, row_of, judge_step, judge}
use Rattle.dsde_sound_depth.proofs.Nests.{nest_step, suffix_nest_step, arm_nest_step, set_nest_step, sign_tail_nest_step, tail_nest_step, nest, suffix_nest, arm_nest, set_nest, sign_tail_nest, tail_nest}
use Rattle.dsde_sound_depth.proofs.ExprTall.{Tall, LinkTall, ArmTall, AllTall, AllLinksTall, AllArmsTall, AllSetsTall, none-tall, tail-tall, sign_tail-tall, field-tall, index-tall, unwrap-tall}
use Rattle.dsde_sound_depth.proofs.FormsTall.{HasHeights, chain-tall, or_else-tall, compare-tall, not-tall, neg-tall, if-tall, call-tall, builtin-tall, list-tall, new-tall, no-test, some-test, arm-tall, each-tall}

-- a claim of a value made of its layer, by what the steps give there
pub roll-claim : {A B : Type 0} (P : A → B → Type 0) (a a' : A) (b b' : B) → a ≡ a' → b ≡ b' → P a' b' → P a b
roll-claim P a a' b b' ha hb own = subst (λ own. P own b) (sym ha) (subst (λ own. P a' own) (sym hb) own)

-- a field of a new record
record SetTall (n : ℕ) (set : SetJudge) : Type 0 where
  pub value : Tall n set.value

module _ (around : Around) (heights : HasHeights around.known) where
  -- what is seen of the parts of an expression

  abbrev suffix_judge : Suffix → Link
  suffix_judge = fold-Suffix Judge Link Guarded SetJudge Link Link (judge_step around) (rules.suffix_step around) rules.arm_step rules.set_step (rules.sign_tail_step around) rules.tail_step

  abbrev arm_judge : ExprArm → Guarded
  arm_judge = fold-ExprArm Judge Link Guarded SetJudge Link Link (judge_step around) (rules.suffix_step around) rules.arm_step rules.set_step (rules.sign_tail_step around) rules.tail_step

  abbrev set_judge : FieldSet → SetJudge
  set_judge = fold-FieldSet Judge Link Guarded SetJudge Link Link (judge_step around) (rules.suffix_step around) rules.arm_step rules.set_step (rules.sign_tail_step around) rules.tail_step

  abbrev sign_tail_judge : SignTail → Link
  sign_tail_judge = fold-SignTail Judge Link Guarded SetJudge Link Link (judge_step around) (rules.suffix_step around) rules.arm_step rules.set_step (rules.sign_tail_step around) rules.tail_step

  abbrev tail_judge : Tail → Link
  tail_judge = fold-Tail Judge Link Guarded SetJudge Link Link (judge_step around) (rules.suffix_step around) rules.arm_step rules.set_step (rules.sign_tail_step around) rules.tail_step

  abbrev ExprClaim : Expr → Type 0
  ExprClaim v = Tall (nest v) (judge around v)

  abbrev SuffixClaim : Suffix → Type 0
  SuffixClaim v = LinkTall (suffix_nest v) (suffix_judge v)

  abbrev ArmClaim : ExprArm → Type 0
  ArmClaim v = ArmTall (arm_nest v) (arm_judge v)

  abbrev FieldClaim : FieldSet → Type 0
  FieldClaim v = SetTall (set_nest v) (set_judge v)

  abbrev SignTailClaim : SignTail → Type 0
  SignTailClaim v = LinkTall (sign_tail_nest v) (sign_tail_judge v)

  abbrev TailClaim : Tail → Type 0
  TailClaim v = LinkTall (tail_nest v) (tail_judge v)

  expr-roll : (x : Expr-F Expr Suffix ExprArm FieldSet SignTail Tail) → Tall (nest_step (map-Expr Expr Suffix ExprArm FieldSet SignTail Tail ℕ ℕ ℕ ℕ ℕ ℕ nest suffix_nest arm_nest set_nest sign_tail_nest tail_nest x)) ((judge_step around) (map-Expr Expr Suffix ExprArm FieldSet SignTail Tail Judge Link Guarded SetJudge Link Link (judge around) suffix_judge arm_judge set_judge sign_tail_judge tail_judge x)) → ExprClaim (roll-Expr x)
  expr-roll x own = roll-claim Tall _ _ _ _
      (fold-roll-Expr ℕ ℕ ℕ ℕ ℕ ℕ nest_step suffix_nest_step arm_nest_step set_nest_step sign_tail_nest_step tail_nest_step x)
      (fold-roll-Expr Judge Link Guarded SetJudge Link Link (judge_step around) (rules.suffix_step around) rules.arm_step rules.set_step (rules.sign_tail_step around) rules.tail_step x) own

  suffix-roll : (x : Suffix-F Expr Suffix ExprArm FieldSet SignTail Tail) → LinkTall (suffix_nest_step (map-Suffix Expr Suffix ExprArm FieldSet SignTail Tail ℕ ℕ ℕ ℕ ℕ ℕ nest suffix_nest arm_nest set_nest sign_tail_nest tail_nest x)) ((rules.suffix_step around) (map-Suffix Expr Suffix ExprArm FieldSet SignTail Tail Judge Link Guarded SetJudge Link Link (judge around) suffix_judge arm_judge set_judge sign_tail_judge tail_judge x)) → SuffixClaim (roll-Suffix x)
  suffix-roll x own = roll-claim LinkTall _ _ _ _
      (fold-roll-Suffix ℕ ℕ ℕ ℕ ℕ ℕ nest_step suffix_nest_step arm_nest_step set_nest_step sign_tail_nest_step tail_nest_step x)
      (fold-roll-Suffix Judge Link Guarded SetJudge Link Link (judge_step around) (rules.suffix_step around) rules.arm_step rules.set_step (rules.sign_tail_step around) rules.tail_step x) own

  arm-roll : (x : ExprArm-F Expr Suffix ExprArm FieldSet SignTail Tail) → ArmTall (arm_nest_step (map-ExprArm Expr Suffix ExprArm FieldSet SignTail Tail ℕ ℕ ℕ ℕ ℕ ℕ nest suffix_nest arm_nest set_nest sign_tail_nest tail_nest x)) (rules.arm_step (map-ExprArm Expr Suffix ExprArm FieldSet SignTail Tail Judge Link Guarded SetJudge Link Link (judge around) suffix_judge arm_judge set_judge sign_tail_judge tail_judge x)) → ArmClaim (roll-ExprArm x)
  arm-roll x own = roll-claim ArmTall _ _ _ _
      (fold-roll-ExprArm ℕ ℕ ℕ ℕ ℕ ℕ nest_step suffix_nest_step arm_nest_step set_nest_step sign_tail_nest_step tail_nest_step x)
      (fold-roll-ExprArm Judge Link Guarded SetJudge Link Link (judge_step around) (rules.suffix_step around) rules.arm_step rules.set_step (rules.sign_tail_step around) rules.tail_step x) own

  field-roll : (x : FieldSet-F Expr Suffix ExprArm FieldSet SignTail Tail) → SetTall (set_nest_step (map-FieldSet Expr Suffix ExprArm FieldSet SignTail Tail ℕ ℕ ℕ ℕ ℕ ℕ nest suffix_nest arm_nest set_nest sign_tail_nest tail_nest x)) (rules.set_step (map-FieldSet Expr Suffix ExprArm FieldSet SignTail Tail Judge Link Guarded SetJudge Link Link (judge around) suffix_judge arm_judge set_judge sign_tail_judge tail_judge x)) → FieldClaim (roll-FieldSet x)
  field-roll x own = roll-claim SetTall _ _ _ _
      (fold-roll-FieldSet ℕ ℕ ℕ ℕ ℕ ℕ nest_step suffix_nest_step arm_nest_step set_nest_step sign_tail_nest_step tail_nest_step x)
      (fold-roll-FieldSet Judge Link Guarded SetJudge Link Link (judge_step around) (rules.suffix_step around) rules.arm_step rules.set_step (rules.sign_tail_step around) rules.tail_step x) own

  sign_tail-roll : (x : SignTail-F Expr Suffix ExprArm FieldSet SignTail Tail) → LinkTall (sign_tail_nest_step (map-SignTail Expr Suffix ExprArm FieldSet SignTail Tail ℕ ℕ ℕ ℕ ℕ ℕ nest suffix_nest arm_nest set_nest sign_tail_nest tail_nest x)) ((rules.sign_tail_step around) (map-SignTail Expr Suffix ExprArm FieldSet SignTail Tail Judge Link Guarded SetJudge Link Link (judge around) suffix_judge arm_judge set_judge sign_tail_judge tail_judge x)) → SignTailClaim (roll-SignTail x)
  sign_tail-roll x own = roll-claim LinkTall _ _ _ _
      (fold-roll-SignTail ℕ ℕ ℕ ℕ ℕ ℕ nest_step suffix_nest_step arm_nest_step set_nest_step sign_tail_nest_step tail_nest_step x)
      (fold-roll-SignTail Judge Link Guarded SetJudge Link Link (judge_step around) (rules.suffix_step around) rules.arm_step rules.set_step (rules.sign_tail_step around) rules.tail_step x) own

  tail-roll : (x : Tail-F Expr Suffix ExprArm FieldSet SignTail Tail) → LinkTall (tail_nest_step (map-Tail Expr Suffix ExprArm FieldSet SignTail Tail ℕ ℕ ℕ ℕ ℕ ℕ nest suffix_nest arm_nest set_nest sign_tail_nest tail_nest x)) (rules.tail_step (map-Tail Expr Suffix ExprArm FieldSet SignTail Tail Judge Link Guarded SetJudge Link Link (judge around) suffix_judge arm_judge set_judge sign_tail_judge tail_judge x)) → TailClaim (roll-Tail x)
  tail-roll x own = roll-claim LinkTall _ _ _ _
      (fold-roll-Tail ℕ ℕ ℕ ℕ ℕ ℕ nest_step suffix_nest_step arm_nest_step set_nest_step sign_tail_nest_step tail_nest_step x)
      (fold-roll-Tail Judge Link Guarded SetJudge Link Link (judge_step around) (rules.suffix_step around) rules.arm_step rules.set_step (rules.sign_tail_step around) rules.tail_step x) own

  -- a part of an expression beside its claim

  abbrev E : Type 0
  E = (v : Expr) × ExprClaim v

  abbrev S : Type 0
  S = (v : Suffix) × SuffixClaim v

  abbrev A : Type 0
  A = (v : ExprArm) × ArmClaim v

  abbrev F : Type 0
  F = (v : FieldSet) × FieldClaim v

  abbrev G : Type 0
  G = (v : SignTail) × SignTailClaim v

  abbrev T : Type 0
  T = (v : Tail) × TailClaim v

  exprs-tall : (list : List E) → AllTall (map nest (map (λ e. e.0) list)) (map (judge around) (map (λ e. e.0) list))
  exprs-tall [] = tt
  exprs-tall ((e, own) ∷ list) = (own, exprs-tall list)

  suffixes-tall : (list : List S) → AllLinksTall (map suffix_nest (map (λ e. e.0) list)) (map suffix_judge (map (λ e. e.0) list))
  suffixes-tall [] = tt
  suffixes-tall ((e, own) ∷ list) = (own, suffixes-tall list)

  signs-tall : (list : List G) → AllLinksTall (map sign_tail_nest (map (λ e. e.0) list)) (map sign_tail_judge (map (λ e. e.0) list))
  signs-tall [] = tt
  signs-tall ((e, own) ∷ list) = (own, signs-tall list)

  tails-tall : (list : List T) → AllLinksTall (map tail_nest (map (λ e. e.0) list)) (map tail_judge (map (λ e. e.0) list))
  tails-tall [] = tt
  tails-tall ((e, own) ∷ list) = (own, tails-tall list)

  arms-tall : (list : List A) → AllArmsTall (map arm_nest (map (λ e. e.0) list)) (map arm_judge (map (λ e. e.0) list))
  arms-tall [] = tt
  arms-tall ((e, own) ∷ list) = (own, arms-tall list)

  sets-tall : (list : List F) → AllSetsTall (map set_nest (map (λ e. e.0) list)) (map set_judge (map (λ e. e.0) list))
  sets-tall [] = tt
  sets-tall ((e, own) ∷ list) = (own.value, sets-tall list)

  -- in it no condition nests
  none : (x : Expr-F Expr Suffix ExprArm FieldSet SignTail Tail) → nest_step (map-Expr Expr Suffix ExprArm FieldSet SignTail Tail ℕ ℕ ℕ ℕ ℕ ℕ nest suffix_nest arm_nest set_nest sign_tail_nest tail_nest x) ≡ 0 → ExprClaim (roll-Expr x)
  none x is = expr-roll x (subst (λ (n : ℕ). Tall n (judge_step around (map-Expr Expr Suffix ExprArm FieldSet SignTail Tail Judge Link Guarded SetJudge Link Link (judge around) suffix_judge arm_judge set_judge sign_tail_judge tail_judge x))) (sym is) (record { tall = λ scope. none-tall (judge_step around (map-Expr Expr Suffix ExprArm FieldSet SignTail Tail Judge Link Guarded SetJudge Link Link (judge around) suffix_judge arm_judge set_judge sign_tail_judge tail_judge x) scope) }))

  expr-case : (y : Expr-F E S A F G T) → ExprClaim (roll-Expr (map-Expr E S A F G T Expr Suffix ExprArm FieldSet SignTail Tail (λ e. e.0) (λ e. e.0) (λ e. e.0) (λ e. e.0) (λ e. e.0) (λ e. e.0) y))
  expr-case (Expr-F.OrElse at (l, left) (r, right)) = expr-roll (Expr-F.OrElse at l r) (or_else-tall around _ _ _ _ left right at)
  expr-case (Expr-F.Or (e, first) rest) = expr-roll (Expr-F.Or e (map (λ e. e.0) rest)) (chain-tall _ _ first _ _ (tails-tall rest))
  expr-case (Expr-F.And (e, first) rest) = expr-roll (Expr-F.And e (map (λ e. e.0) rest)) (chain-tall _ _ first _ _ (tails-tall rest))
  expr-case (Expr-F.Not at (e, part)) = expr-roll (Expr-F.Not at e) (not-tall around _ _ part at)
  expr-case (Expr-F.Compare which at (l, left) (r, right)) = expr-roll (Expr-F.Compare which at l r) (compare-tall around _ _ _ _ left right which at)
  expr-case (Expr-F.Sum (e, first) rest) = expr-roll (Expr-F.Sum e (map (λ e. e.0) rest)) (chain-tall _ _ first _ _ (signs-tall rest))
  expr-case (Expr-F.Mul (e, first) rest) = expr-roll (Expr-F.Mul e (map (λ e. e.0) rest)) (chain-tall _ _ first _ _ (signs-tall rest))
  expr-case (Expr-F.Neg at (e, part)) = expr-roll (Expr-F.Neg at e) (neg-tall around _ _ part at)
  expr-case (Expr-F.Post (e, first) rest) = expr-roll (Expr-F.Post e (map (λ e. e.0) rest)) (chain-tall _ _ first _ _ (suffixes-tall rest))
  expr-case (Expr-F.Number at value) = none (Expr-F.Number at value) refl
  expr-case (Expr-F.Truth at value) = none (Expr-F.Truth at value) refl
  expr-case (Expr-F.Elapsed at) = none (Expr-F.Elapsed at) refl
  expr-case (Expr-F.Name id) = none (Expr-F.Name id) refl
  expr-case (Expr-F.Call name args) = expr-roll (Expr-F.Call name (map (λ e. e.0) args)) (call-tall around _ _ (exprs-tall args) name heights)
  expr-case (Expr-F.Variant owner variant) = none (Expr-F.Variant owner variant) refl
  expr-case (Expr-F.New at owner fields) = expr-roll (Expr-F.New at owner (map (λ e. e.0) fields)) (new-tall around at owner _ _ (sets-tall fields))
  expr-case (Expr-F.NoneOf at ty) = none (Expr-F.NoneOf at ty) refl
  expr-case (Expr-F.EmptyOf at ty) = none (Expr-F.EmptyOf at ty) refl
  expr-case (Expr-F.Builtin which at args) = expr-roll (Expr-F.Builtin which at (map (λ e. e.0) args)) (builtin-tall around _ _ (exprs-tall args) (row_of which) at)
  expr-case (Expr-F.Paren at (e, inner)) = expr-roll (Expr-F.Paren at e) (record { tall = λ scope. inner.tall scope })
  expr-case (Expr-F.List at items) = expr-roll (Expr-F.List at (map (λ e. e.0) items)) (list-tall around at _ _ (exprs-tall items))
  expr-case (Expr-F.Each at name (l, list) None (v, value)) = expr-roll (Expr-F.Each at name l None v) (each-tall around at name _ _ list None None no-test _ _ value)
  expr-case (Expr-F.Each at name (l, list) (Some (c, cond)) (v, value)) = expr-roll (Expr-F.Each at name l (Some c) v)
      (each-tall around at name _ _ list (Some (nest c)) (Some (judge around c)) (some-test (nest c) (judge around c) cond) _ _ value)
  expr-case (Expr-F.If at arms (e, other)) = expr-roll (Expr-F.If at (map (λ e. e.0) arms) e) (if-tall around _ _ other at _ _ (arms-tall arms))

  suffix-case : (y : Suffix-F E S A F G T) → SuffixClaim (roll-Suffix (map-Suffix E S A F G T Expr Suffix ExprArm FieldSet SignTail Tail (λ e. e.0) (λ e. e.0) (λ e. e.0) (λ e. e.0) (λ e. e.0) (λ e. e.0) y))
  suffix-case (Suffix-F.Field at name) = suffix-roll (Suffix-F.Field at name) (field-tall around at name)
  suffix-case (Suffix-F.Index at (e, value)) = suffix-roll (Suffix-F.Index at e) (index-tall around _ at _ value)
  suffix-case (Suffix-F.Unwrap at) = suffix-roll (Suffix-F.Unwrap at) (unwrap-tall around at)

  arm-case : (y : ExprArm-F E S A F G T) → ArmClaim (roll-ExprArm (map-ExprArm E S A F G T Expr Suffix ExprArm FieldSet SignTail Tail (λ e. e.0) (λ e. e.0) (λ e. e.0) (λ e. e.0) (λ e. e.0) (λ e. e.0) y))
  arm-case y = arm-roll (record { cond = y.cond.0; value = y.value.0 }) (arm-tall _ _ _ _ y.cond.1 y.value.1)

  field-case : (y : FieldSet-F E S A F G T) → FieldClaim (roll-FieldSet (map-FieldSet E S A F G T Expr Suffix ExprArm FieldSet SignTail Tail (λ e. e.0) (λ e. e.0) (λ e. e.0) (λ e. e.0) (λ e. e.0) (λ e. e.0) y))
  field-case y = field-roll (record { name = y.name; value = y.value.0 }) (record { value = y.value.1 })

  sign_tail-case : (y : SignTail-F E S A F G T) → SignTailClaim (roll-SignTail (map-SignTail E S A F G T Expr Suffix ExprArm FieldSet SignTail Tail (λ e. e.0) (λ e. e.0) (λ e. e.0) (λ e. e.0) (λ e. e.0) (λ e. e.0) y))
  sign_tail-case y = sign_tail-roll (record { sign = y.sign; at = y.at; value = y.value.0 }) (sign_tail-tall around _ y.sign y.at _ y.value.1)

  tail-case : (y : Tail-F E S A F G T) → TailClaim (roll-Tail (map-Tail E S A F G T Expr Suffix ExprArm FieldSet SignTail Tail (λ e. e.0) (λ e. e.0) (λ e. e.0) (λ e. e.0) (λ e. e.0) (λ e. e.0) y))
  tail-case y = tail-roll (record { at = y.at; value = y.value.0 }) (tail-tall _ y.at _ y.value.1)

  pub expr-tall : (e : Expr) → Tall (nest e) (judge around e)
  expr-tall = ind-Expr ExprClaim SuffixClaim ArmClaim FieldClaim SignTailClaim TailClaim
      (λ x y is. subst (λ (z : Expr-F Expr Suffix ExprArm FieldSet SignTail Tail). ExprClaim (roll-Expr z)) is (expr-case y))
      (λ x y is. subst (λ (z : Suffix-F Expr Suffix ExprArm FieldSet SignTail Tail). SuffixClaim (roll-Suffix z)) is (suffix-case y))
      (λ x y is. subst (λ (z : ExprArm-F Expr Suffix ExprArm FieldSet SignTail Tail). ArmClaim (roll-ExprArm z)) is (arm-case y))
      (λ x y is. subst (λ (z : FieldSet-F Expr Suffix ExprArm FieldSet SignTail Tail). FieldClaim (roll-FieldSet z)) is (field-case y))
      (λ x y is. subst (λ (z : SignTail-F Expr Suffix ExprArm FieldSet SignTail Tail). SignTailClaim (roll-SignTail z)) is (sign_tail-case y))
      (λ x y is. subst (λ (z : Tail-F Expr Suffix ExprArm FieldSet SignTail Tail). TailClaim (roll-Tail z)) is (tail-case y))
