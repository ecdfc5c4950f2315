-- Expressions are made level by level of what meets their wants.
use Rattle.std.proofs.Common.{◌≡◌, ℕ, Bool, true, false, List, [], ◌∷◌, ◌++◌, map, Option, Some, None, refl, sym, ap, ◌∙◌, append_assoc, arith}
use Rattle.std.proofs.lemmas.List.{append-nil}
use Rattle.std.specs.Prelude.{flat_map, nat_le, ◌≤◌}
use Rattle.std.specs.List.{list_all}
use Rattle.std.proofs.lemmas.Bool.Decides.{nat_tests}
use Rattle.dsde_syntax.specs.declared.token.Tok.TheVariants as tok
use Rattle.dsde_words.specs.declared.key.Key.TheVariants as key
use Rattle.dsde_syntax.specs.declared.token.Sign.{Sign}
use Rattle.dsde_syntax.specs.declared.token.Sign.TheVariants as sign
use Rattle.dsde_syntax.specs.declared.expr.Expr.{Expr}
use Rattle.dsde_syntax.specs.declared.expr.Suffix.{Suffix}
use Rattle.dsde_syntax.specs.declared.expr.ExprArm.{ExprArm}
use Rattle.dsde_syntax.specs.declared.expr.FieldSet.{FieldSet}
use Rattle.dsde_syntax.specs.declared.expr.SignTail.{SignTail}
use Rattle.dsde_syntax.specs.declared.expr.Tail.{Tail}
use Rattle.dsde_syntax.specs.declared.expr.Expr.TheOpen.{Expr-F}
use Rattle.dsde_syntax.specs.declared.expr.Expr.TheViews.{roll-Expr}
use Rattle.dsde_syntax.specs.declared.expr.Expr.TheFolds.{map-Expr}
use Rattle.dsde_syntax.specs.Grammar.{Tokens, word, mark, joined, expr_step, expr_tokens, suffix_tokens, expr_arm_tokens, field_set_tokens, sign_tail_tokens, tail_tokens}
use Rattle.dsde_syntax.specs.Levels.{level_step, level_of, level_if, stands_at, may_follow, is_sum_sign, is_mul_sign, is_expr_arm, is_field_set, is_suffix, sign_tail_level, tail_level}
use Rattle.dsde_parser_grammar.specs.Want.{Want}
use Rattle.dsde_parser_grammar.specs.Want as want
use Rattle.dsde_parser_grammar.specs.Steps.{Wants, post_wants, neg_wants, mul_wants, sum_wants, cmp_wants, not_wants, and_wants, or_wants, expr_wants}
use Rattle.dsde_parser_grammar.proofs.Layers.{expr-tokens, expr-level}
use Rattle.dsde_parser_grammar.proofs.Values.{ExprAt, ExprOf, Compared, Value, spelled, Values, spells, spelled-same}
use Rattle.dsde_parser_grammar.proofs.Taking.{split, true-and}

-- an expression by its layer
pub made : (level : ℕ) (x : Expr-F Expr Suffix ExprArm FieldSet SignTail Tail) {u : Tokens} → expr_step (map-Expr Expr Suffix ExprArm FieldSet SignTail Tail Tokens Tokens Tokens Tokens Tokens Tokens expr_tokens suffix_tokens expr_arm_tokens field_set_tokens sign_tail_tokens tail_tokens x) ≡ u → stands_at level (level_step (map-Expr Expr Suffix ExprArm FieldSet SignTail Tail ℕ Bool Bool Bool (Sign × ℕ) ℕ level_of is_suffix is_expr_arm is_field_set sign_tail_level tail_level x)) ≡ true → ExprOf level u
made level x e h = record { value = record { value = roll-Expr x; good = ap (stands_at level) (expr-level x) ∙ h }; spells = expr-tokens x ∙ e }

-- a node whose parts stand where they may
pub placed : (level own : ℕ) (b : Bool) → b ≡ true → stands_at level own ≡ true → stands_at level (level_if b own) ≡ true
placed level own true h is = is
placed level own false h is = cc

stands-more : (j k own : ℕ) → j ≤ k → stands_at j own ≡ true → stands_at k own ≡ true
stands-more j k own less h = more j k own less h
  where
    more : (j k own : ℕ) → j ≤ k → nat_le own j ≡ true → nat_le own k ≡ true
    more j k own less h = grind (arith, nat_tests)

-- what may stand at a level may stand at a higher one
pub raised : (j k : ℕ) → j ≤ k → {u : Tokens} → ExprOf j u → ExprOf k u
raised j k less own = record { value = record { value = own.value.value; good = stands-more j k (level_of own.value.value) less own.value.good }; spells = own.spells }

-- a chain of one part or several
chain : {A B : Type 0} (j k : ℕ) → j ≤ k → (own : A → B) (ok : B → Bool) (spell : List A → Tokens) → spell [] ≡ [] → ((e : ExprAt j) (x : A) (xs : List A) → list_all ok (map own (x ∷ xs)) ≡ true → ExprOf k (expr_tokens e.value ++ spell (x ∷ xs))) → {u : Tokens} → ExprOf j u → (items : List A) → list_all ok (map own items) ≡ true → ExprOf k (u ++ spell items)
chain j k less own ok spell none node {u} first [] all =
    raised j k less (spelled-same (sym (append-nil u) ∙ ap (λ more. u ++ more) (sym none)) first)
chain j k less own ok spell none node {u} first (x ∷ xs) all =
    spelled-same (ap (λ t. t ++ spell (x ∷ xs)) first.spells) (node first.value x xs all)

-- one part, and a want behind it
behind : (wants : Wants) (a : Want) (level : ℕ) (vs : Values (wants ++ a ∷ [])) → ((front : Values wants) (v : Value a) → ExprOf level (spells wants front ++ spelled a v)) → ExprOf level (spells (wants ++ a ∷ []) vs)
behind wants a level vs make =
    let s = split wants (a ∷ []) vs in
    spelled-same (ap (λ more. spells wants s.front ++ more) (sym (append-nil (spelled a s.back.0))) ∙ s.joins) (make s.front s.back.0)

pub post-of : (vs : Values post_wants) → ExprOf 1 (spells post_wants vs)
post-of vs =
    behind (want.prim ∷ []) want.suffixes 1 vs (λ front v.
    chain 0 1 (omega arith) is_suffix (λ holds. holds) (λ items. joined (map suffix_tokens items)) refl
    (λ e x xs all. made 1 (Expr-F.Post e.value (x ∷ xs)) refl
    (placed 1 1 _ (true-and _ _ (true-and _ _ e.good refl) all) refl))
    (let first : ExprOf 0 (expr_tokens front.0.value ++ []) = record { value = front.0; spells = sym (append-nil (expr_tokens front.0.value)) } in first) v.items v.all)

negated : (minus : Bool) {u : Tokens} → ExprOf 1 u → ExprOf 2 (spelled want.minus minus ++ u)
negated true {u} own =
    spelled-same (ap (λ t. tok.Sign sign.Minus ∷ t) own.spells) (made 2 (Expr-F.Neg 0 own.value.value) refl (placed 2 2 _ own.value.good refl))
negated false own = raised 1 2 (omega arith) own

pub neg-of : (vs : Values neg_wants) → ExprOf 2 (spells neg_wants vs)
neg-of vs = negated vs.0 (post-of vs.1)

pub mul-of : (vs : Values mul_wants) → ExprOf 3 (spells mul_wants vs)
mul-of vs =
    behind neg_wants want.factors 3 vs (λ front v.
    chain 2 3 (omega arith) sign_tail_level (may_follow is_mul_sign 2) (λ items. joined (map sign_tail_tokens items)) refl
    (λ e x xs all. made 3 (Expr-F.Mul e.value (x ∷ xs)) refl
    (placed 3 3 _ (true-and _ _ (true-and _ _ e.good refl) all) refl))
    (neg-of front) v.items v.all)

pub sum-of : (vs : Values sum_wants) → ExprOf 4 (spells sum_wants vs)
sum-of vs =
    behind mul_wants want.terms 4 vs (λ front v.
    chain 3 4 (omega arith) sign_tail_level (may_follow is_sum_sign 3) (λ items. joined (map sign_tail_tokens items)) refl
    (λ e x xs all. made 4 (Expr-F.Sum e.value (x ∷ xs)) refl
    (placed 4 4 _ (true-and _ _ (true-and _ _ e.good refl) all) refl))
    (mul-of front) v.items v.all)

compared : {u : Tokens} → ExprOf 4 u → (v : Option Compared) → ExprOf 5 (u ++ spelled want.comparison v)
compared {u} own None = raised 4 5 (omega arith) (spelled-same (sym (append-nil u)) own)
compared {u} own (Some v) =
    spelled-same (append_assoc (expr_tokens own.value.value) (mark v.which) (expr_tokens v.value.value) ∙ ap (λ t. t ++ (mark v.which ++ expr_tokens v.value.value)) own.spells)
    (made 5 (Expr-F.Compare v.which 0 own.value.value v.value.value) refl (placed 5 5 _ (true-and _ _ (true-and _ _ v.is own.value.good) v.value.good) refl))

pub cmp-of : (vs : Values cmp_wants) → ExprOf 5 (spells cmp_wants vs)
cmp-of vs = behind sum_wants want.comparison 5 vs (λ front v. compared (sum-of front) v)

denied : (negation : Bool) {u : Tokens} → ExprOf 5 u → ExprOf 6 (spelled want.negation negation ++ u)
denied true {u} own =
    spelled-same (ap (λ t. tok.Key key.Not ∷ t) own.spells) (made 6 (Expr-F.Not 0 own.value.value) refl (placed 6 6 _ own.value.good refl))
denied false own = raised 5 6 (omega arith) own

pub not-of : (vs : Values not_wants) → ExprOf 6 (spells not_wants vs)
not-of vs = denied vs.0 (cmp-of vs.1)

pub and-of : (vs : Values and_wants) → ExprOf 7 (spells and_wants vs)
and-of vs =
    behind not_wants want.conjuncts 7 vs (λ front v.
    chain 6 7 (omega arith) tail_level (stands_at 6) (λ items. flat_map (λ own. word key.And ++ own) (map tail_tokens items)) refl
    (λ e x xs all. made 7 (Expr-F.And e.value (x ∷ xs)) refl
    (placed 7 7 _ (true-and _ _ (true-and _ _ e.good refl) all) refl))
    (not-of front) v.items v.all)

pub or-of : (vs : Values or_wants) → ExprOf 8 (spells or_wants vs)
or-of vs =
    behind and_wants want.disjuncts 8 vs (λ front v.
    chain 7 8 (omega arith) tail_level (stands_at 7) (λ items. flat_map (λ own. word key.Or ++ own) (map tail_tokens items)) refl
    (λ e x xs all. made 8 (Expr-F.Or e.value (x ∷ xs)) refl
    (placed 8 8 _ (true-and _ _ (true-and _ _ e.good refl) all) refl))
    (and-of front) v.items v.all)

or_else : {u : Tokens} → ExprOf 8 u → (v : Option (ExprAt 8)) → ExprOf 9 (u ++ spelled want.fallback v)
or_else {u} own None = raised 8 9 (omega arith) (spelled-same (sym (append-nil u)) own)
or_else {u} own (Some v) =
    spelled-same (append_assoc (expr_tokens own.value.value) (mark sign.QuestionQuestion) (expr_tokens v.value) ∙ ap (λ t. t ++ (mark sign.QuestionQuestion ++ expr_tokens v.value)) own.spells)
    (made 9 (Expr-F.OrElse 0 own.value.value v.value) refl (placed 9 9 _ (true-and _ _ own.value.good v.good) refl))

pub expr-of : (vs : Values expr_wants) → ExprOf 9 (spells expr_wants vs)
expr-of vs = behind or_wants want.fallback 9 vs (λ front v. or_else (or-of front) v)
