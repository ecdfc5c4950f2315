-- Expressions of operators are read.
use Rattle.std.proofs.Common.{◌≡◌, ℕ, ◌≤◌, Bool, true, false, ◌&&◌, List, [], ◌∷◌, ◌++◌, map, refl, subst, ◌∙◌, arith, append_assoc}
use Rattle.std.specs.Prelude.{flat_map, ◌==◌}
use Rattle.std.specs.List.{list_all}
use Rattle.std.proofs.lemmas.Bool.Decides.{Decides-eqb}
use Rattle.dsde_syntax.specs.declared.token.Tok.TheVariants as tok
use Rattle.dsde_words.specs.declared.key.Key.{Key}
use Rattle.dsde_words.specs.declared.key.Key.TheVariants as key
use Rattle.dsde_syntax.specs.declared.token.Sign.{Sign}
use Rattle.dsde_syntax.specs.declared.token.Sign.TheVariants as sign
use Rattle.dsde_syntax.specs.declared.expr.Expr.{Expr}
use Rattle.dsde_syntax.specs.declared.expr.Suffix.{Suffix}
use Rattle.dsde_syntax.specs.declared.expr.SignTail.{SignTail}
use Rattle.dsde_syntax.specs.declared.expr.Tail.{Tail}
use Rattle.dsde_syntax.specs.declared.expr.Expr.TheOpen.{Expr-F}
use Rattle.dsde_syntax.specs.declared.expr.Expr.TheViews.{roll-Expr, roll-SignTail, roll-Tail}
use Rattle.dsde_syntax.specs.Grammar.{Tokens, joined, word, mark, suffix_tokens, sign_tail_tokens, tail_tokens}
use Rattle.dsde_syntax.specs.Places.{Span, ◌>>◌, token_at, all_spans, sign_tail_span, suffix_span, tail_span}
use Rattle.dsde_syntax.specs.Levels.{level_if, stands_at, has_first, all_hold, may_follow, is_comparison, is_sum_sign, is_mul_sign, is_suffix, sign_tail_level, tail_level}
use Rattle.dsde_parser_grammar.proofs.Reading.{Reads, AllRead, any, pair-Reads, made-Reads, fewer-Reads, either-first, maybe-some, left-Reads, place-Reads, sign-Reads}
use Rattle.dsde_parser_grammar.proofs.ExprReaders.{continues, stops, goes_on, sign_continues, begin_of, level, suffix, sign_tail, tail, compared, or_else, read_expr, post_of, mul_of, sum_of, and_of, or_of}
use Rattle.dsde_parser_grammar.proofs.LevelReads.{ExprReads, if-ExprReads, StandsAt, stands, chain-some, goes_on-stops, stops-less}
use Rattle.dsde_parser_grammar.proofs.ListReads.{and-true, flat_map-joined}

-- a suffix is read, and begins with a sign that goes on with a chain of suffixes
pub record SuffixReads (v : Suffix) (t : Tokens) (ok : Bool) (s : Span) : Type 0 where
  pub begins : (rest : Tokens) → continues (t ++ rest) ≡ 1
  pub reads : ok ≡ true → Reads any (λ n. suffix (read_expr n)) v t s

-- a sign and its operand are read where they may follow
pub record SignTailReads (v : SignTail) (t : Tokens) (own : Sign × ℕ) (s : Span) : Type 0 where
  pub begins : (rest : Tokens) → continues (t ++ rest) ≡ sign_continues own.0
  pub reads : (k : ℕ) → k ≤ 9 → stands_at k own.1 ≡ true → Reads (stops k) (λ n. sign_tail (level k n (read_expr n))) v t s

-- a word and its operand are read where they may follow
pub record TailReads (v : Tail) (t : Tokens) (own : ℕ) (s : Span) : Type 0 where
  pub reads : (which : Key) (k : ℕ) → k ≤ 9 → stands_at k own ≡ true → Reads (stops k) (λ n. tail (level k n (read_expr n))) v (word which ++ t) s

pub sign_tail-reads : {e : Expr} {t : Tokens} {own : ℕ} {s : Span} (which : Sign) (at : ℕ) → ExprReads e t own s → SignTailReads (roll-SignTail (record { sign = which; at = at; value = e })) (mark which ++ t) (which, own) (token_at at >> s)
sign_tail-reads which at value = record {
  begins = λ rest. refl;
  reads = λ k less h.
      made-Reads (λ v. roll-SignTail (record { sign = v.0.0; at = v.0.1; value = v.1 })) (pair-Reads (sign-Reads which at) (stands k less value h).reads (λ rest h. refl));
}

pub tail-reads : {e : Expr} {t : Tokens} {own : ℕ} {s : Span} (at : ℕ) → ExprReads e t own s → TailReads (roll-Tail (record { at = at; value = e })) t own (token_at at >> s)
tail-reads at value = record {
  reads = λ which k less h.
      made-Reads (λ v. roll-Tail (record { at = v.0; value = v.1 })) (pair-Reads (place-Reads (tok.Key which) at) (stands k less value h).reads (λ rest h. refl));
}

begins-first : {e : Expr} {t : Tokens} {s : Span} (k j : ℕ) → k ≤ j → StandsAt k e t s → (more rest : Tokens) → begin_of ((t ++ more) ++ rest) ≤ j
begins-first {e} {t} {s} k j less there more rest = rw (append_assoc t more rest) (omega (arith, there.begins (more ++ rest)))

-- with a part in between
begins-first_of_three : {e : Expr} {t : Tokens} {s : Span} (k j : ℕ) → k ≤ j → StandsAt k e t s → (next more rest : Tokens) → begin_of (((t ++ next) ++ more) ++ rest) ≤ j
begins-first_of_three {e} {t} {s} k j less there next more rest =
    rw (append_assoc t next more) (begins-first k j less there (next ++ more) rest)

is-goes_on : (k c : ℕ) → c ≡ k → (c == k) ≡ true
is-goes_on k c h = (Decides-eqb c k).1 h

compare-continues : (which : Sign) → is_comparison which ≡ true → sign_continues which ≡ 5
compare-continues sign.EqualEqual h = refl
compare-continues sign.NotEqual h = refl
compare-continues sign.Less h = refl
compare-continues sign.LessEqual h = refl
compare-continues sign.Greater h = refl
compare-continues sign.GreaterEqual h = refl
compare-continues _ h = cc

sum-continues : (which : Sign) → is_sum_sign which ≡ true → sign_continues which ≡ 4
sum-continues sign.Plus h = refl
sum-continues sign.Minus h = refl
sum-continues sign.PlusBar h = refl
sum-continues sign.MinusBar h = refl
sum-continues sign.PlusPlus h = refl
sum-continues _ h = cc

mul-continues : (which : Sign) → is_mul_sign which ≡ true → sign_continues which ≡ 3
mul-continues sign.Star h = refl
mul-continues sign.Slash h = refl
mul-continues sign.Percent h = refl
mul-continues sign.StarBar h = refl
mul-continues _ h = cc

-- an operand, a sign and another operand
or_else-some : {l r : Expr} {tl tr : Tokens} {sl sr : Span} (at : ℕ) → StandsAt 8 l tl sl → StandsAt 8 r tr sr → Reads (stops 9) (λ n. level 9 n (read_expr n)) (roll-Expr (Expr-F.OrElse at l r)) ((tl ++ mark sign.QuestionQuestion) ++ tr) ((sl >> token_at at) >> sr)
or_else-some {l} {r} {tl} {tr} {sl} {sr} at first next =
    let right = pair-Reads (place-Reads (tok.Sign sign.QuestionQuestion) at) (fewer-Reads (stops 9) (λ rest. stops-less 9 8 rest (omega arith)) next.reads) (λ rest h. refl) in
    let both = made-Reads or_else (pair-Reads first.reads (maybe-some (goes_on 9) right (λ rest h. refl)) (λ rest h. refl)) in
    left-Reads tl (mark sign.QuestionQuestion) tr sl (token_at at) sr both

compare-some : {l r : Expr} {tl tr : Tokens} {sl sr : Span} (which : Sign) (at : ℕ) → is_comparison which ≡ true → StandsAt 4 l tl sl → StandsAt 4 r tr sr → Reads (stops 5) (λ n. level 5 n (read_expr n)) (roll-Expr (Expr-F.Compare which at l r)) ((tl ++ mark which) ++ tr) ((sl >> token_at at) >> sr)
compare-some {l} {r} {tl} {tr} {sl} {sr} which at h first next =
    let right = pair-Reads (sign-Reads which at) (fewer-Reads (stops 5) (λ rest. stops-less 5 4 rest (omega arith)) next.reads) (λ rest h. refl) in
    let is : sign_continues which ≡ 5 = compare-continues which h in
    let both = made-Reads compared (pair-Reads first.reads (maybe-some (goes_on 5) right (λ rest h. is-goes_on 5 (sign_continues which) is)) (λ rest h. goes_on-stops 5 4 ((mark which ++ tr) ++ rest) (omega arith) (is-goes_on 5 (sign_continues which) is))) in
    left-Reads tl (mark which) tr sl (token_at at) sr both

pub or_else-reads : {l r : Expr} {tl tr : Tokens} {ll lr : ℕ} {sl sr : Span} (at : ℕ) → ExprReads l tl ll sl → ExprReads r tr lr sr → ExprReads (roll-Expr (Expr-F.OrElse at l r)) ((tl ++ mark sign.QuestionQuestion) ++ tr) (level_if (stands_at 8 ll && stands_at 8 lr) 9) ((sl >> token_at at) >> sr)
or_else-reads {l} {r} {tl} {tr} {ll} {lr} {sl} {sr} at left right = if-ExprReads _ 9 (λ h.
    let both = and-true (stands_at 8 ll) (stands_at 8 lr) h in
    let first = stands 8 (omega arith) left both.0 in
    let next = stands 8 (omega arith) right both.1 in
    record {
      begins = λ less. begins-first_of_three 8 9 (omega arith) first (mark sign.QuestionQuestion) tr;
      reads = λ less. or_else-some at first next;
    })

pub compare-reads : {l r : Expr} {tl tr : Tokens} {ll lr : ℕ} {sl sr : Span} (which : Sign) (at : ℕ) → ExprReads l tl ll sl → ExprReads r tr lr sr → ExprReads (roll-Expr (Expr-F.Compare which at l r)) ((tl ++ mark which) ++ tr) (level_if ((is_comparison which && stands_at 4 ll) && stands_at 4 lr) 5) ((sl >> token_at at) >> sr)
compare-reads {l} {r} {tl} {tr} {ll} {lr} {sl} {sr} which at left right = if-ExprReads _ 5 (λ h.
    let both = and-true (is_comparison which && stands_at 4 ll) (stands_at 4 lr) h in
    let begun = and-true (is_comparison which) (stands_at 4 ll) both.0 in
    let first = stands 4 (omega arith) left begun.1 in
    let next = stands 4 (omega arith) right both.1 in
    record {
      begins = λ less. begins-first_of_three 4 5 (omega arith) first (mark which) tr;
      reads = λ less. compare-some which at begun.0 first next;
    })

pub not-reads : {e : Expr} {t : Tokens} {own : ℕ} {s : Span} (at : ℕ) → ExprReads e t own s → ExprReads (roll-Expr (Expr-F.Not at e)) (word key.Not ++ t) (level_if (stands_at 5 own) 6) (token_at at >> s)
not-reads at part = if-ExprReads _ 6 (λ h.
    let there = stands 5 (omega arith) part h in
    record {
      begins = λ less rest. omega arith;
      reads = λ less. either-first _ (λ ts. begin_of ts == 6)
          (made-Reads (λ v. roll-Expr (Expr-F.Not v.0 v.1)) (pair-Reads (place-Reads (tok.Key key.Not) at) (fewer-Reads (stops 6) (λ rest. stops-less 6 5 rest (omega arith)) there.reads) (λ rest h. refl)))
          (λ rest h. refl);
    })

pub neg-reads : {e : Expr} {t : Tokens} {own : ℕ} {s : Span} (at : ℕ) → ExprReads e t own s → ExprReads (roll-Expr (Expr-F.Neg at e)) (mark sign.Minus ++ t) (level_if (stands_at 1 own) 2) (token_at at >> s)
neg-reads at part = if-ExprReads _ 2 (λ h.
    let there = stands 1 (omega arith) part h in
    record {
      begins = λ less rest. omega arith;
      reads = λ less. either-first _ (λ ts. begin_of ts == 2)
          (made-Reads (λ v. roll-Expr (Expr-F.Neg v.0 v.1)) (pair-Reads (place-Reads (tok.Sign sign.Minus) at) (fewer-Reads (stops 2) (λ rest. stops-less 2 1 rest (omega arith)) there.reads) (λ rest h. refl)))
          (λ rest h. refl);
    })

false-no : false ≡ true → ⊥
false-no h = cc

abbrev pub SignTailClaim : SignTail → Type 0
SignTailClaim v = SignTailReads v (sign_tail_tokens v) (sign_tail_level v) (sign_tail_span v)

abbrev pub TailClaim : Tail → Type 0
TailClaim v = TailReads v (tail_tokens v) (tail_level v) (tail_span v)

abbrev pub SuffixClaim : Suffix → Type 0
SuffixClaim v = SuffixReads v (suffix_tokens v) (is_suffix v) (suffix_span v)

sum-rest : (rest : List ((v : SignTail) × SignTailClaim v)) → list_all (may_follow is_sum_sign 3) (map sign_tail_level (map (λ e. e.0) rest)) ≡ true → AllRead (goes_on 4) (stops 3) (λ n. sign_tail (level 3 n (read_expr n))) (map (λ e. e.0) rest) (map sign_tail_tokens (map (λ e. e.0) rest)) (map sign_tail_span (map (λ e. e.0) rest))
sum-rest [] h = tt
sum-rest ((v, own) ∷ rest) h =
    let both = and-true (may_follow is_sum_sign 3 (sign_tail_level v)) (list_all (may_follow is_sum_sign 3) (map sign_tail_level (map (λ e. e.0) rest))) h in
    let here = and-true (is_sum_sign (sign_tail_level v).0) (stands_at 3 (sign_tail_level v).1) both.0 in
    (own.reads 3 (omega arith) here.1, (λ more. is-goes_on 4 _ (own.begins more ∙ sum-continues (sign_tail_level v).0 here.0)), sum-rest rest both.1)

pub sum-reads : {e : Expr} {t : Tokens} {own : ℕ} {s : Span} → ExprReads e t own s → (rest : List ((v : SignTail) × SignTailClaim v)) → ExprReads (roll-Expr (Expr-F.Sum e (map (λ e. e.0) rest))) (t ++ joined (map sign_tail_tokens (map (λ e. e.0) rest))) (level_if ((stands_at 3 own && has_first (map sign_tail_level (map (λ e. e.0) rest))) && list_all (may_follow is_sum_sign 3) (map sign_tail_level (map (λ e. e.0) rest))) 4) (s >> all_spans (map sign_tail_span (map (λ e. e.0) rest)))
sum-reads {e} {t} {own} {s} first [] = if-ExprReads _ 4 (λ h. let none = and-true (stands_at 3 own) false (and-true (stands_at 3 own && false) true h).0 in absurd (false-no none.1))
sum-reads {e} {t} {own} {s} first (more ∷ rest) = if-ExprReads _ 4 (λ h.
    let all : List ((v : SignTail) × SignTailClaim v) = more ∷ rest in
    let split = and-true (stands_at 3 own && true) (list_all (may_follow is_sum_sign 3) (map sign_tail_level (map (λ e. e.0) all))) h in
    let there = stands 3 (omega arith) first (and-true (stands_at 3 own) true split.0).0 in
    record {
      begins = λ less. begins-first 3 4 (omega arith) there (joined (map sign_tail_tokens (map (λ e. e.0) all)));
      reads = λ less. chain-some sum_of 4 3 (omega arith) (stops 3) (λ rest. goes_on-stops 4 3 rest (omega arith)) (λ rest. stops-less 4 3 rest (omega arith))
          (λ n. sign_tail (level 3 n (read_expr n))) (λ n. level 3 n (read_expr n)) there.reads _ _ _ _ _ _ (sum-rest all split.1);
    })

mul-rest : (rest : List ((v : SignTail) × SignTailClaim v)) → list_all (may_follow is_mul_sign 2) (map sign_tail_level (map (λ e. e.0) rest)) ≡ true → AllRead (goes_on 3) (stops 2) (λ n. sign_tail (level 2 n (read_expr n))) (map (λ e. e.0) rest) (map sign_tail_tokens (map (λ e. e.0) rest)) (map sign_tail_span (map (λ e. e.0) rest))
mul-rest [] h = tt
mul-rest ((v, own) ∷ rest) h =
    let both = and-true (may_follow is_mul_sign 2 (sign_tail_level v)) (list_all (may_follow is_mul_sign 2) (map sign_tail_level (map (λ e. e.0) rest))) h in
    let here = and-true (is_mul_sign (sign_tail_level v).0) (stands_at 2 (sign_tail_level v).1) both.0 in
    (own.reads 2 (omega arith) here.1, (λ more. is-goes_on 3 _ (own.begins more ∙ mul-continues (sign_tail_level v).0 here.0)), mul-rest rest both.1)

pub mul-reads : {e : Expr} {t : Tokens} {own : ℕ} {s : Span} → ExprReads e t own s → (rest : List ((v : SignTail) × SignTailClaim v)) → ExprReads (roll-Expr (Expr-F.Mul e (map (λ e. e.0) rest))) (t ++ joined (map sign_tail_tokens (map (λ e. e.0) rest))) (level_if ((stands_at 2 own && has_first (map sign_tail_level (map (λ e. e.0) rest))) && list_all (may_follow is_mul_sign 2) (map sign_tail_level (map (λ e. e.0) rest))) 3) (s >> all_spans (map sign_tail_span (map (λ e. e.0) rest)))
mul-reads {e} {t} {own} {s} first [] = if-ExprReads _ 3 (λ h. let none = and-true (stands_at 2 own) false (and-true (stands_at 2 own && false) true h).0 in absurd (false-no none.1))
mul-reads {e} {t} {own} {s} first (more ∷ rest) = if-ExprReads _ 3 (λ h.
    let all : List ((v : SignTail) × SignTailClaim v) = more ∷ rest in
    let split = and-true (stands_at 2 own && true) (list_all (may_follow is_mul_sign 2) (map sign_tail_level (map (λ e. e.0) all))) h in
    let there = stands 2 (omega arith) first (and-true (stands_at 2 own) true split.0).0 in
    record {
      begins = λ less. begins-first 2 3 (omega arith) there (joined (map sign_tail_tokens (map (λ e. e.0) all)));
      reads = λ less. chain-some mul_of 3 2 (omega arith) (stops 2) (λ rest. goes_on-stops 3 2 rest (omega arith)) (λ rest. stops-less 3 2 rest (omega arith))
          (λ n. sign_tail (level 2 n (read_expr n))) (λ n. level 2 n (read_expr n)) there.reads _ _ _ _ _ _ (mul-rest all split.1);
    })

and-rest : (rest : List ((v : Tail) × TailClaim v)) → list_all (stands_at 6) (map tail_level (map (λ e. e.0) rest)) ≡ true → AllRead (goes_on 7) (stops 6) (λ n. tail (level 6 n (read_expr n))) (map (λ e. e.0) rest) (map (λ own. word key.And ++ own) (map tail_tokens (map (λ e. e.0) rest))) (map tail_span (map (λ e. e.0) rest))
and-rest [] h = tt
and-rest ((v, own) ∷ rest) h =
    let both = and-true (stands_at 6 (tail_level v)) (list_all (stands_at 6) (map tail_level (map (λ e. e.0) rest))) h in
    (own.reads key.And 6 (omega arith) both.0, (λ more. refl), and-rest rest both.1)

pub and-reads : {e : Expr} {t : Tokens} {own : ℕ} {s : Span} → ExprReads e t own s → (rest : List ((v : Tail) × TailClaim v)) → ExprReads (roll-Expr (Expr-F.And e (map (λ e. e.0) rest))) (t ++ flat_map (λ own. word key.And ++ own) (map tail_tokens (map (λ e. e.0) rest))) (level_if ((stands_at 6 own && has_first (map tail_level (map (λ e. e.0) rest))) && list_all (stands_at 6) (map tail_level (map (λ e. e.0) rest))) 7) (s >> all_spans (map tail_span (map (λ e. e.0) rest)))
and-reads {e} {t} {own} {s} first [] = if-ExprReads _ 7 (λ h. let none = and-true (stands_at 6 own) false (and-true (stands_at 6 own && false) true h).0 in absurd (false-no none.1))
and-reads {e} {t} {own} {s} first (more ∷ rest) = if-ExprReads _ 7 (λ h.
    let all : List ((v : Tail) × TailClaim v) = more ∷ rest in
    let toks = map tail_tokens (map (λ e. e.0) all) in
    let split = and-true (stands_at 6 own && true) (list_all (stands_at 6) (map tail_level (map (λ e. e.0) all))) h in
    let there = stands 6 (omega arith) first (and-true (stands_at 6 own) true split.0).0 in
    let P : Tokens → Type 0 = λ own. Reads (stops 7) (λ n. level 7 n (read_expr n)) (roll-Expr (Expr-F.And e (map (λ e. e.0) all))) (t ++ own) (s >> all_spans (map tail_span (map (λ e. e.0) all))) in
    record {
      begins = λ less. begins-first 6 7 (omega arith) there (flat_map (λ own. word key.And ++ own) toks);
      reads = λ less. subst P (flat_map-joined (λ own. word key.And ++ own) toks)
          (chain-some and_of 7 6 (omega arith) (stops 6) (λ rest. goes_on-stops 7 6 rest (omega arith)) (λ rest. stops-less 7 6 rest (omega arith))
          (λ n. tail (level 6 n (read_expr n))) (λ n. level 6 n (read_expr n)) there.reads _ _ _ _ _ _ (and-rest all split.1));
    })

or-rest : (rest : List ((v : Tail) × TailClaim v)) → list_all (stands_at 7) (map tail_level (map (λ e. e.0) rest)) ≡ true → AllRead (goes_on 8) (stops 7) (λ n. tail (level 7 n (read_expr n))) (map (λ e. e.0) rest) (map (λ own. word key.Or ++ own) (map tail_tokens (map (λ e. e.0) rest))) (map tail_span (map (λ e. e.0) rest))
or-rest [] h = tt
or-rest ((v, own) ∷ rest) h =
    let both = and-true (stands_at 7 (tail_level v)) (list_all (stands_at 7) (map tail_level (map (λ e. e.0) rest))) h in
    (own.reads key.Or 7 (omega arith) both.0, (λ more. refl), or-rest rest both.1)

pub or-reads : {e : Expr} {t : Tokens} {own : ℕ} {s : Span} → ExprReads e t own s → (rest : List ((v : Tail) × TailClaim v)) → ExprReads (roll-Expr (Expr-F.Or e (map (λ e. e.0) rest))) (t ++ flat_map (λ own. word key.Or ++ own) (map tail_tokens (map (λ e. e.0) rest))) (level_if ((stands_at 7 own && has_first (map tail_level (map (λ e. e.0) rest))) && list_all (stands_at 7) (map tail_level (map (λ e. e.0) rest))) 8) (s >> all_spans (map tail_span (map (λ e. e.0) rest)))
or-reads {e} {t} {own} {s} first [] = if-ExprReads _ 8 (λ h. let none = and-true (stands_at 7 own) false (and-true (stands_at 7 own && false) true h).0 in absurd (false-no none.1))
or-reads {e} {t} {own} {s} first (more ∷ rest) = if-ExprReads _ 8 (λ h.
    let all : List ((v : Tail) × TailClaim v) = more ∷ rest in
    let toks = map tail_tokens (map (λ e. e.0) all) in
    let split = and-true (stands_at 7 own && true) (list_all (stands_at 7) (map tail_level (map (λ e. e.0) all))) h in
    let there = stands 7 (omega arith) first (and-true (stands_at 7 own) true split.0).0 in
    let P : Tokens → Type 0 = λ own. Reads (stops 8) (λ n. level 8 n (read_expr n)) (roll-Expr (Expr-F.Or e (map (λ e. e.0) all))) (t ++ own) (s >> all_spans (map tail_span (map (λ e. e.0) all))) in
    record {
      begins = λ less. begins-first 7 8 (omega arith) there (flat_map (λ own. word key.Or ++ own) toks);
      reads = λ less. subst P (flat_map-joined (λ own. word key.Or ++ own) toks)
          (chain-some or_of 8 7 (omega arith) (stops 7) (λ rest. goes_on-stops 8 7 rest (omega arith)) (λ rest. stops-less 8 7 rest (omega arith))
          (λ n. tail (level 7 n (read_expr n))) (λ n. level 7 n (read_expr n)) there.reads _ _ _ _ _ _ (or-rest all split.1));
    })

post-rest : (rest : List ((v : Suffix) × SuffixClaim v)) → all_hold (map is_suffix (map (λ e. e.0) rest)) ≡ true → AllRead (goes_on 1) any (λ n. suffix (read_expr n)) (map (λ e. e.0) rest) (map suffix_tokens (map (λ e. e.0) rest)) (map suffix_span (map (λ e. e.0) rest))
post-rest [] h = tt
post-rest ((v, own) ∷ rest) h =
    let both = and-true (is_suffix v) (all_hold (map is_suffix (map (λ e. e.0) rest))) h in
    (own.reads both.0, (λ more. is-goes_on 1 _ (own.begins more)), post-rest rest both.1)

pub post-reads : {e : Expr} {t : Tokens} {own : ℕ} {s : Span} → ExprReads e t own s → (rest : List ((v : Suffix) × SuffixClaim v)) → ExprReads (roll-Expr (Expr-F.Post e (map (λ e. e.0) rest))) (t ++ joined (map suffix_tokens (map (λ e. e.0) rest))) (level_if ((stands_at 0 own && has_first (map is_suffix (map (λ e. e.0) rest))) && all_hold (map is_suffix (map (λ e. e.0) rest))) 1) (s >> all_spans (map suffix_span (map (λ e. e.0) rest)))
post-reads {e} {t} {own} {s} first [] = if-ExprReads _ 1 (λ h. let none = and-true (stands_at 0 own) false (and-true (stands_at 0 own && false) true h).0 in absurd (false-no none.1))
post-reads {e} {t} {own} {s} first (more ∷ rest) = if-ExprReads _ 1 (λ h.
    let all : List ((v : Suffix) × SuffixClaim v) = more ∷ rest in
    let split = and-true (stands_at 0 own && true) (all_hold (map is_suffix (map (λ e. e.0) all))) h in
    let there = stands 0 (omega arith) first (and-true (stands_at 0 own) true split.0).0 in
    record {
      begins = λ less. begins-first 0 1 (omega arith) there (joined (map suffix_tokens (map (λ e. e.0) all)));
      reads = λ less. chain-some post_of 1 0 (omega arith) any (λ rest h. refl) (λ rest h. refl)
          (λ n. suffix (read_expr n)) (λ n. level 0 n (read_expr n)) there.reads _ _ _ _ _ _ (post-rest all split.1);
    })
