-- Chains of operators that were read.
use Rattle.std.proofs.Common.{◌≡◌, ℕ, ◌+◌, ◌≤◌, Bool, true, false, ◌&&◌, List, [], ◌∷◌, ◌++◌, length, map, Option, Some, refl, sym, ap, subst, ◌∙◌, arith, append_assoc}
use Rattle.std.specs.Prelude.{option_and_then, flat_map}
use Rattle.std.specs.List.{list_all}
use Rattle.std.proofs.lemmas.Bool.Decides.{nat_tests}
use Rattle.dsde_words.specs.declared.key.Key.TheVariants as key
use Rattle.dsde_syntax.specs.declared.token.Sign.{Sign}
use Rattle.dsde_syntax.specs.declared.expr.Expr.{Expr}
use Rattle.dsde_syntax.specs.declared.expr.Expr.TheVariants as expr
use Rattle.dsde_syntax.specs.declared.expr.Expr.TheVariants.{rolls-Or, rolls-And, rolls-Sum, rolls-Mul, rolls-Post}
use Rattle.dsde_syntax.specs.declared.expr.Suffix.{Suffix}
use Rattle.dsde_syntax.specs.declared.expr.SignTail.{SignTail}
use Rattle.dsde_syntax.specs.declared.expr.Tail.{Tail}
use Rattle.dsde_syntax.specs.declared.expr.Expr.TheOpen.{Expr-F}
use Rattle.dsde_syntax.specs.declared.expr.Expr.TheFolds.{fold-roll-Expr}
use Rattle.dsde_syntax.specs.Grammar.{Tokens, word, joined, expr_step, suffix_step, expr_arm_step, field_set_step, sign_tail_step, tail_step, expr_tokens, suffix_tokens, sign_tail_tokens, tail_tokens}
use Rattle.dsde_syntax.specs.Levels.{level_if, stands_at, has_first, may_follow, is_sum_sign, is_mul_sign, level_step, suffix_level_step, expr_arm_level_step, field_set_level_step, sign_tail_level_step, tail_level_step, level_of, is_suffix, sign_tail_level, tail_level}
use Rattle.dsde_syntax.specs.Places.{Span, ◌>>◌, span_step, suffix_span_step, expr_arm_span_step, field_set_span_step, sign_tail_span_step, tail_span_step, expr_span, sign_tail_span, suffix_span, tail_span}
use Rattle.dsde_parser_expressions.specs.Took.{Spot, Took, TookAll}
use Rattle.dsde_parser_expressions.specs.Parts.{IsWithin, AllOk, joined_by, all_by, or_tail_tokens, and_tail_tokens}

pub le-stands : (own k : ℕ) → own ≤ k → stands_at k own ≡ true
le-stands own k h = grind (arith, nat_tests)

has-some : {A B : Type 0} (f : A → B) (xs : List A) → (xs ≡ [] → ⊥) → has_first (map f xs) ≡ true
has-some f [] h = absurd (h refl)
has-some f (x ∷ xs) h = refl

pub all-map : {A B : Type 0} (f : A → B) (ok : B → Bool) (xs : List A) → list_all (λ x. ok (f x)) xs ≡ true → list_all ok (map f xs) ≡ true
all-map f ok [] h = refl
all-map f ok (x ∷ xs) h =
    let both = and-true (ok (f x)) (list_all (λ x. ok (f x)) xs) h in
    rw (both.0, all-map f ok xs both.1) refl
  where
    and-true : (a b : Bool) → (a && b) ≡ true → (a ≡ true) × (b ≡ true)
    and-true true b h = (refl, h)
    and-true false b h = cc

flat-joined : {A : Type 0} (f : A → Tokens) (around : Tokens → Tokens) (xs : List A) → flat_map around (map f xs) ≡ joined (map (λ x. around (f x)) xs)
flat-joined f around [] = refl
flat-joined f around (x ∷ xs) = ap (λ (more : Tokens). around (f x) ++ more) (flat-joined f around xs)

within : (b1 b2 b3 : Bool) (k : ℕ) → b1 ≡ true → b2 ≡ true → b3 ≡ true → level_if ((b1 && b2) && b3) k ≤ k
within b1 b2 b3 k h1 h2 h3 = rw (h1, h2, h3) (omega arith)

-- a node whose first part and further parts were read
chain-Took : {before mid after : Spot} (first node : Expr) (more : Tokens) (rest : Span) (k own : ℕ) → Took expr_tokens expr_span (IsWithin k) before mid first → mid.1 ≡ more ++ after.1 → rest mid.0 ≡ Some after.0 → length after.1 ≤ length mid.1 → after.0 + length after.1 ≡ mid.0 + length mid.1 → expr_tokens node ≡ expr_tokens first ++ more → expr_span node ≡ (expr_span first >> rest) → level_of node ≤ own → Took expr_tokens expr_span (IsWithin own) before after node
chain-Took {before} {mid} {after} first node more rest k own begun spells placed shorter moved toks span level = record {
  spells = begun.spells ∙ (ap (λ (own : Tokens). expr_tokens first ++ own) spells ∙ (sym (append_assoc (expr_tokens first) more after.1) ∙ ap (λ (own : Tokens). own ++ after.1) (sym toks)));
  placed = ap (λ (own : Span). own before.0) span ∙ (ap (λ (got : Option ℕ). option_and_then rest got) begun.placed ∙ placed);
  good = level;
  shorter = omega (arith, begun.shorter, shorter);
  moved = omega (arith, begun.moved, moved);
}

pub or-Took : {before mid after : Spot} (first : Expr) (rest : List Tail) → Took expr_tokens expr_span (IsWithin 7) before mid first → TookAll (joined_by or_tail_tokens) (all_by tail_span) (AllOk (λ tail. stands_at 7 (tail_level tail))) mid after rest → (rest ≡ [] → ⊥) → Took expr_tokens expr_span (IsWithin 8) before after (expr.Or first rest)
or-Took {before} {mid} {after} first rest begun more some =
    let node = expr.Or first rest in
    let toks = ap expr_tokens (sym (rolls-Or first rest)) ∙ fold-roll-Expr Tokens Tokens Tokens Tokens Tokens Tokens expr_step suffix_step expr_arm_step field_set_step sign_tail_step tail_step (Expr-F.Or first rest) in
    let span = ap expr_span (sym (rolls-Or first rest)) ∙ fold-roll-Expr Span Span Span Span Span Span span_step suffix_span_step expr_arm_span_step field_set_span_step sign_tail_span_step tail_span_step (Expr-F.Or first rest) in
    let lvl = ap level_of (sym (rolls-Or first rest)) ∙ fold-roll-Expr ℕ Bool Bool Bool (Sign × ℕ) ℕ level_step suffix_level_step expr_arm_level_step field_set_level_step sign_tail_level_step tail_level_step (Expr-F.Or first rest) in
    let small = within (stands_at 7 (level_of first)) (has_first (map tail_level rest)) (list_all (stands_at 7) (map tail_level rest)) 8 (le-stands (level_of first) 7 begun.good) (has-some tail_level rest some) (all-map tail_level (stands_at 7) rest more.good) in
    let P : ℕ → Type 0 = λ own. own ≤ 8 in
    chain-Took first node (joined_by or_tail_tokens rest) (all_by tail_span rest) 7 8 begun more.spells more.placed more.shorter more.moved
    (toks ∙ ap (λ (own : Tokens). expr_tokens first ++ own) (flat-joined tail_tokens (λ value. word key.Or ++ value) rest)) span (subst P (sym lvl) small)

pub and-Took : {before mid after : Spot} (first : Expr) (rest : List Tail) → Took expr_tokens expr_span (IsWithin 6) before mid first → TookAll (joined_by and_tail_tokens) (all_by tail_span) (AllOk (λ tail. stands_at 6 (tail_level tail))) mid after rest → (rest ≡ [] → ⊥) → Took expr_tokens expr_span (IsWithin 7) before after (expr.And first rest)
and-Took {before} {mid} {after} first rest begun more some =
    let node = expr.And first rest in
    let toks = ap expr_tokens (sym (rolls-And first rest)) ∙ fold-roll-Expr Tokens Tokens Tokens Tokens Tokens Tokens expr_step suffix_step expr_arm_step field_set_step sign_tail_step tail_step (Expr-F.And first rest) in
    let span = ap expr_span (sym (rolls-And first rest)) ∙ fold-roll-Expr Span Span Span Span Span Span span_step suffix_span_step expr_arm_span_step field_set_span_step sign_tail_span_step tail_span_step (Expr-F.And first rest) in
    let lvl = ap level_of (sym (rolls-And first rest)) ∙ fold-roll-Expr ℕ Bool Bool Bool (Sign × ℕ) ℕ level_step suffix_level_step expr_arm_level_step field_set_level_step sign_tail_level_step tail_level_step (Expr-F.And first rest) in
    let small = within (stands_at 6 (level_of first)) (has_first (map tail_level rest)) (list_all (stands_at 6) (map tail_level rest)) 7 (le-stands (level_of first) 6 begun.good) (has-some tail_level rest some) (all-map tail_level (stands_at 6) rest more.good) in
    let P : ℕ → Type 0 = λ own. own ≤ 7 in
    chain-Took first node (joined_by and_tail_tokens rest) (all_by tail_span rest) 6 7 begun more.spells more.placed more.shorter more.moved
    (toks ∙ ap (λ (own : Tokens). expr_tokens first ++ own) (flat-joined tail_tokens (λ value. word key.And ++ value) rest)) span (subst P (sym lvl) small)

pub sum-Took : {before mid after : Spot} (first : Expr) (rest : List SignTail) → Took expr_tokens expr_span (IsWithin 3) before mid first → TookAll (joined_by sign_tail_tokens) (all_by sign_tail_span) (AllOk (λ tail. may_follow is_sum_sign 3 (sign_tail_level tail))) mid after rest → (rest ≡ [] → ⊥) → Took expr_tokens expr_span (IsWithin 4) before after (expr.Sum first rest)
sum-Took {before} {mid} {after} first rest begun more some =
    let node = expr.Sum first rest in
    let toks = ap expr_tokens (sym (rolls-Sum first rest)) ∙ fold-roll-Expr Tokens Tokens Tokens Tokens Tokens Tokens expr_step suffix_step expr_arm_step field_set_step sign_tail_step tail_step (Expr-F.Sum first rest) in
    let span = ap expr_span (sym (rolls-Sum first rest)) ∙ fold-roll-Expr Span Span Span Span Span Span span_step suffix_span_step expr_arm_span_step field_set_span_step sign_tail_span_step tail_span_step (Expr-F.Sum first rest) in
    let lvl = ap level_of (sym (rolls-Sum first rest)) ∙ fold-roll-Expr ℕ Bool Bool Bool (Sign × ℕ) ℕ level_step suffix_level_step expr_arm_level_step field_set_level_step sign_tail_level_step tail_level_step (Expr-F.Sum first rest) in
    let small = within (stands_at 3 (level_of first)) (has_first (map sign_tail_level rest)) (list_all (may_follow is_sum_sign 3) (map sign_tail_level rest)) 4 (le-stands (level_of first) 3 begun.good) (has-some sign_tail_level rest some) (all-map sign_tail_level (may_follow is_sum_sign 3) rest more.good) in
    let P : ℕ → Type 0 = λ own. own ≤ 4 in
    chain-Took first node (joined_by sign_tail_tokens rest) (all_by sign_tail_span rest) 3 4 begun more.spells more.placed more.shorter more.moved
    (toks) span (subst P (sym lvl) small)

pub mul-Took : {before mid after : Spot} (first : Expr) (rest : List SignTail) → Took expr_tokens expr_span (IsWithin 2) before mid first → TookAll (joined_by sign_tail_tokens) (all_by sign_tail_span) (AllOk (λ tail. may_follow is_mul_sign 2 (sign_tail_level tail))) mid after rest → (rest ≡ [] → ⊥) → Took expr_tokens expr_span (IsWithin 3) before after (expr.Mul first rest)
mul-Took {before} {mid} {after} first rest begun more some =
    let node = expr.Mul first rest in
    let toks = ap expr_tokens (sym (rolls-Mul first rest)) ∙ fold-roll-Expr Tokens Tokens Tokens Tokens Tokens Tokens expr_step suffix_step expr_arm_step field_set_step sign_tail_step tail_step (Expr-F.Mul first rest) in
    let span = ap expr_span (sym (rolls-Mul first rest)) ∙ fold-roll-Expr Span Span Span Span Span Span span_step suffix_span_step expr_arm_span_step field_set_span_step sign_tail_span_step tail_span_step (Expr-F.Mul first rest) in
    let lvl = ap level_of (sym (rolls-Mul first rest)) ∙ fold-roll-Expr ℕ Bool Bool Bool (Sign × ℕ) ℕ level_step suffix_level_step expr_arm_level_step field_set_level_step sign_tail_level_step tail_level_step (Expr-F.Mul first rest) in
    let small = within (stands_at 2 (level_of first)) (has_first (map sign_tail_level rest)) (list_all (may_follow is_mul_sign 2) (map sign_tail_level rest)) 3 (le-stands (level_of first) 2 begun.good) (has-some sign_tail_level rest some) (all-map sign_tail_level (may_follow is_mul_sign 2) rest more.good) in
    let P : ℕ → Type 0 = λ own. own ≤ 3 in
    chain-Took first node (joined_by sign_tail_tokens rest) (all_by sign_tail_span rest) 2 3 begun more.spells more.placed more.shorter more.moved
    (toks) span (subst P (sym lvl) small)

pub post-Took : {before mid after : Spot} (first : Expr) (rest : List Suffix) → Took expr_tokens expr_span (IsWithin 0) before mid first → TookAll (joined_by suffix_tokens) (all_by suffix_span) (AllOk is_suffix) mid after rest → (rest ≡ [] → ⊥) → Took expr_tokens expr_span (IsWithin 1) before after (expr.Post first rest)
post-Took {before} {mid} {after} first rest begun more some =
    let node = expr.Post first rest in
    let toks = ap expr_tokens (sym (rolls-Post first rest)) ∙ fold-roll-Expr Tokens Tokens Tokens Tokens Tokens Tokens expr_step suffix_step expr_arm_step field_set_step sign_tail_step tail_step (Expr-F.Post first rest) in
    let span = ap expr_span (sym (rolls-Post first rest)) ∙ fold-roll-Expr Span Span Span Span Span Span span_step suffix_span_step expr_arm_span_step field_set_span_step sign_tail_span_step tail_span_step (Expr-F.Post first rest) in
    let lvl = ap level_of (sym (rolls-Post first rest)) ∙ fold-roll-Expr ℕ Bool Bool Bool (Sign × ℕ) ℕ level_step suffix_level_step expr_arm_level_step field_set_level_step sign_tail_level_step tail_level_step (Expr-F.Post first rest) in
    let small = within (stands_at 0 (level_of first)) (has_first (map is_suffix rest)) (list_all ((λ ok. ok)) (map is_suffix rest)) 1 (le-stands (level_of first) 0 begun.good) (has-some is_suffix rest some) (all-map is_suffix ((λ ok. ok)) rest more.good) in
    let P : ℕ → Type 0 = λ own. own ≤ 1 in
    chain-Took first node (joined_by suffix_tokens rest) (all_by suffix_span rest) 0 1 begun more.spells more.placed more.shorter more.moved
    (toks) span (subst P (sym lvl) small)

-- one operand, which nothing follows
pub alone-Took : {A : Type 0} {f : A → Tokens} {g : A → Span} {G : List A → Type 0} {before mid after : Spot} {j k : ℕ} {e : Expr} {rest : List A} → Took expr_tokens expr_span (IsWithin j) before mid e → TookAll (joined_by f) (all_by g) G mid after rest → rest ≡ [] → j ≤ k → Took expr_tokens expr_span (IsWithin k) before after e
alone-Took {A} {f} {g} {G} {before} {mid} {after} {j} {k} {e} {rest = []} own more none low = record {
  spells = own.spells ∙ ap (λ (rest : Tokens). expr_tokens e ++ rest) more.spells;
  placed = own.placed ∙ more.placed;
  good = omega (arith, own.good, low);
  shorter = omega (arith, own.shorter, more.shorter);
  moved = omega (arith, own.moved, more.moved);
}
alone-Took {A} {f} {g} {G} {before} {mid} {after} {j} {k} {e} {rest = x ∷ xs} own more none low = cc
