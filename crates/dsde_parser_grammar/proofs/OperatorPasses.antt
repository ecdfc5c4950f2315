-- Expressions of operators pass.
use Rattle.std.proofs.Common.{◌≡◌, ℕ, ◌+◌, ◌≤◌, Bool, true, false, ◌&&◌, List, [], ◌∷◌, ◌++◌, map, refl, ap, subst, ◌∙◌, arith, append_assoc}
use Rattle.std.specs.Prelude.{flat_map, ◌==◌}
use Rattle.std.specs.List.{list_all}
use Rattle.std.proofs.lemmas.Bool.Decides.{Decides-eqb}
use Rattle.dsde_syntax.specs.declared.token.Tok.{Tok}
use Rattle.dsde_syntax.specs.declared.token.Tok.TheVariants as tok
use Rattle.dsde_words.specs.declared.key.Key.{Key}
use Rattle.dsde_words.specs.declared.key.Key.TheVariants as key
use Rattle.dsde_syntax.specs.declared.token.Sign.{Sign}
use Rattle.dsde_syntax.specs.declared.token.Sign.TheVariants as sign
use Rattle.dsde_syntax.specs.declared.expr.Suffix.{Suffix}
use Rattle.dsde_syntax.specs.declared.expr.SignTail.{SignTail}
use Rattle.dsde_syntax.specs.declared.expr.Tail.{Tail}
use Rattle.dsde_syntax.specs.Grammar.{Tokens, joined, word, mark, suffix_tokens, sign_tail_tokens, tail_tokens}
use Rattle.dsde_syntax.specs.Levels.{level_if, stands_at, has_first, all_hold, may_follow, is_comparison, is_sum_sign, is_mul_sign, is_suffix, sign_tail_level, tail_level}
use Rattle.dsde_parser_grammar.proofs.ExprReaders.{continues, stops, sign_continues, begin_of}
use Rattle.dsde_parser_grammar.proofs.LevelReads.{goes_on-stops, stops-less}
use Rattle.dsde_parser_grammar.proofs.ListReads.{and-true, flat_map-joined}
use Rattle.dsde_parser_grammar.specs.Want.{Want}
use Rattle.dsde_parser_grammar.specs.Want as want
use Rattle.dsde_parser_grammar.specs.Steps.{Wants, Step, go, go_if, optional, repeated, onward, behind, step, stop, mul_wants, neg_wants, sum_wants}
use Rattle.dsde_parser_grammar.proofs.Leading.{any, Leads, AllLead, take, pair, beside, fewer, left, after}
use Rattle.dsde_parser_grammar.proofs.LevelPasses.{wants_of, ExprPasses, if-ExprPasses, StandsAt, stands, chain-some, suffixes-passed, factors-passed, terms-passed, conjuncts-passed, disjuncts-passed}

-- a suffix passes, and begins with a sign that goes on with a chain of suffixes
pub record SuffixPasses (t : Tokens) (ok : Bool) : Type 0 where
  pub begins : (rest : Tokens) → continues (t ++ rest) ≡ 1
  pub passes : ok ≡ true → Leads any (want.suffixes ∷ []) (want.suffixes ∷ []) t

-- a sign and its operand pass where they may follow
pub record SignTailPasses (t : Tokens) (own : Sign × ℕ) : Type 0 where
  pub begins : (rest : Tokens) → continues (t ++ rest) ≡ sign_continues own.0
  pub passes : (k : ℕ) → k ≤ 9 → stands_at k own.1 ≡ true → (want : Want) → ((more : Wants) (at : ℕ) (rest : Tokens) → stop (want ∷ more) at (tok.Sign own.0 ∷ rest) ≡ stop ((wants_of k ++ want ∷ []) ++ more) (at + 1) rest) → Leads (stops k) (want ∷ []) (want ∷ []) t

-- a word and its operand pass where they may follow
pub record TailPasses (t : Tokens) (own : ℕ) : Type 0 where
  pub passes : (which : Key) (k : ℕ) → k ≤ 9 → stands_at k own ≡ true → (want : Want) → ((more : Wants) (at : ℕ) (rest : Tokens) → stop (want ∷ more) at (tok.Key which ∷ rest) ≡ stop ((wants_of k ++ want ∷ []) ++ more) (at + 1) rest) → Leads (stops k) (want ∷ []) (want ∷ []) (word which ++ t)

pub sign_tail-passes : {t : Tokens} {own : ℕ} (which : Sign) → ExprPasses t own → SignTailPasses (mark which ++ t) (which, own)
sign_tail-passes which value = record {
  begins = λ rest. refl;
  passes = λ k less h want turn. take (tok.Sign which) (beside (stands k less value h).passes (want ∷ [])) turn;
}

pub tail-passes : {t : Tokens} {own : ℕ} → ExprPasses t own → TailPasses t own
tail-passes value = record {
  passes = λ which k less h want turn. take (tok.Key which) (beside (stands k less value h).passes (want ∷ [])) turn;
}

begins-first : {t : Tokens} (k j : ℕ) → k ≤ j → StandsAt k t → (more rest : Tokens) → begin_of ((t ++ more) ++ rest) ≤ j
begins-first {t} k j less there more rest = rw (append_assoc t more rest) (omega (arith, there.begins (more ++ rest)))

-- with a part in between
begins-first_of_three : {t : Tokens} (k j : ℕ) → k ≤ j → StandsAt k t → (next more rest : Tokens) → begin_of (((t ++ next) ++ more) ++ rest) ≤ j
begins-first_of_three {t} k j less there next more rest =
    rw (append_assoc t next more) (begins-first k j less there (next ++ more) rest)

is-goes_on : (k c : ℕ) → c ≡ k → (c == k) ≡ true
is-goes_on k c h = (Decides-eqb c k).1 h

compare-continues : (which : Sign) → is_comparison which ≡ true → sign_continues which ≡ 5
compare-continues sign.EqualEqual h = refl
compare-continues sign.NotEqual h = refl
compare-continues sign.Less h = refl
compare-continues sign.LessEqual h = refl
compare-continues sign.Greater h = refl
compare-continues sign.GreaterEqual h = refl
compare-continues _ h = cc

sum-continues : (which : Sign) → is_sum_sign which ≡ true → sign_continues which ≡ 4
sum-continues sign.Plus h = refl
sum-continues sign.Minus h = refl
sum-continues sign.PlusBar h = refl
sum-continues sign.MinusBar h = refl
sum-continues sign.PlusPlus h = refl
sum-continues _ h = cc

mul-continues : (which : Sign) → is_mul_sign which ≡ true → sign_continues which ≡ 3
mul-continues sign.Star h = refl
mul-continues sign.Slash h = refl
mul-continues sign.Percent h = refl
mul-continues sign.StarBar h = refl
mul-continues _ h = cc

-- a want goes on by its step
pub stepped : (want : Want) (t : Tok) (next : Wants) → step want t ≡ go next → (more : Wants) (at : ℕ) (rest : Tokens) → stop (want ∷ more) at (t ∷ rest) ≡ stop (next ++ more) (at + 1) rest
stepped want t next h more at rest = ap (λ (own : Step). after (onward own more (behind more t)) at rest) h

-- an operand, a sign and another operand
or_else-some : {tl tr : Tokens} → StandsAt 8 tl → StandsAt 8 tr → Leads (stops 9) (wants_of 9) [] ((tl ++ mark sign.QuestionQuestion) ++ tr)
or_else-some {tl} {tr} first next =
    let right = take (tok.Sign sign.QuestionQuestion) (fewer (stops 9) (λ rest. stops-less 9 8 rest (omega arith)) next.passes) (λ more at rest. refl) in
    left tl (mark sign.QuestionQuestion) tr (pair (beside first.passes (want.fallback ∷ [])) right (λ rest h. refl))

compare-some : {tl tr : Tokens} (which : Sign) → is_comparison which ≡ true → StandsAt 4 tl → StandsAt 4 tr → Leads (stops 5) (wants_of 5) [] ((tl ++ mark which) ++ tr)
compare-some {tl} {tr} which h first next =
    let right = take (tok.Sign which) (fewer (stops 5) (λ rest. stops-less 5 4 rest (omega arith)) next.passes)
    (stepped want.comparison (tok.Sign which) sum_wants (ap (λ (own : Bool). optional (go_if own sum_wants)) h)) in
    let is : sign_continues which ≡ 5 = compare-continues which h in
    left tl (mark which) tr (pair (beside first.passes (want.comparison ∷ [])) right (λ rest fits. goes_on-stops 5 4 ((mark which ++ tr) ++ rest) (omega arith) (is-goes_on 5 (sign_continues which) is)))

pub or_else-passes : {tl tr : Tokens} {ll lr : ℕ} → ExprPasses tl ll → ExprPasses tr lr → ExprPasses ((tl ++ mark sign.QuestionQuestion) ++ tr) (level_if (stands_at 8 ll && stands_at 8 lr) 9)
or_else-passes {tl} {tr} {ll} {lr} left right = if-ExprPasses _ 9 (λ h.
    let both = and-true (stands_at 8 ll) (stands_at 8 lr) h in
    let first = stands 8 (omega arith) left both.0 in
    let next = stands 8 (omega arith) right both.1 in
    record {
      begins = λ less. begins-first_of_three 8 9 (omega arith) first (mark sign.QuestionQuestion) tr;
      passes = λ less. or_else-some first next;
    })

pub compare-passes : {tl tr : Tokens} {ll lr : ℕ} (which : Sign) → ExprPasses tl ll → ExprPasses tr lr → ExprPasses ((tl ++ mark which) ++ tr) (level_if ((is_comparison which && stands_at 4 ll) && stands_at 4 lr) 5)
compare-passes {tl} {tr} {ll} {lr} which left right = if-ExprPasses _ 5 (λ h.
    let both = and-true (is_comparison which && stands_at 4 ll) (stands_at 4 lr) h in
    let begun = and-true (is_comparison which) (stands_at 4 ll) both.0 in
    let first = stands 4 (omega arith) left begun.1 in
    let next = stands 4 (omega arith) right both.1 in
    record {
      begins = λ less. begins-first_of_three 4 5 (omega arith) first (mark which) tr;
      passes = λ less. compare-some which begun.0 first next;
    })

pub not-passes : {t : Tokens} {own : ℕ} → ExprPasses t own → ExprPasses (word key.Not ++ t) (level_if (stands_at 5 own) 6)
not-passes part = if-ExprPasses _ 6 (λ h.
    let there = stands 5 (omega arith) part h in
    record {
      begins = λ less rest. omega arith;
      passes = λ less. take (tok.Key key.Not) (fewer (stops 6) (λ rest. stops-less 6 5 rest (omega arith)) there.passes) (λ more at rest. refl);
    })

pub neg-passes : {t : Tokens} {own : ℕ} → ExprPasses t own → ExprPasses (mark sign.Minus ++ t) (level_if (stands_at 1 own) 2)
neg-passes part = if-ExprPasses _ 2 (λ h.
    let there = stands 1 (omega arith) part h in
    record {
      begins = λ less rest. omega arith;
      passes = λ less. take (tok.Sign sign.Minus) (fewer (stops 2) (λ rest. stops-less 2 1 rest (omega arith)) there.passes) (λ more at rest. refl);
    })

false-no : false ≡ true → ⊥
false-no h = cc

abbrev pub SignTailClaim : SignTail → Type 0
SignTailClaim v = SignTailPasses (sign_tail_tokens v) (sign_tail_level v)

abbrev pub TailClaim : Tail → Type 0
TailClaim v = TailPasses (tail_tokens v) (tail_level v)

abbrev pub SuffixClaim : Suffix → Type 0
SuffixClaim v = SuffixPasses (suffix_tokens v) (is_suffix v)

abbrev G : Type 0
G = (v : SignTail) × SignTailClaim v

abbrev T : Type 0
T = (v : Tail) × TailClaim v

abbrev S : Type 0
S = (v : Suffix) × SuffixClaim v

sum-rest : (rest : List G) → list_all (may_follow is_sum_sign 3) (map sign_tail_level (map (λ e. e.0) rest)) ≡ true → AllLead (stops 3) (want.terms ∷ []) (map sign_tail_tokens (map (λ e. e.0) rest))
sum-rest [] h = tt
sum-rest ((v, own) ∷ rest) h =
    let both = and-true (may_follow is_sum_sign 3 (sign_tail_level v)) (list_all (may_follow is_sum_sign 3) (map sign_tail_level (map (λ e. e.0) rest))) h in
    let here = and-true (is_sum_sign (sign_tail_level v).0) (stands_at 3 (sign_tail_level v).1) both.0 in (
      own.passes 3 (omega arith) here.1 want.terms (stepped want.terms (tok.Sign (sign_tail_level v).0) (mul_wants ++ want.terms ∷ []) (ap (λ (own : Bool). repeated want.terms (go_if own mul_wants)) here.0)),
      (λ more. goes_on-stops 4 3 _ (omega arith) (is-goes_on 4 _ (own.begins more ∙ sum-continues (sign_tail_level v).0 here.0))),
      sum-rest rest both.1,
    )

pub sum-passes : {t : Tokens} {own : ℕ} → ExprPasses t own → (rest : List G) → ExprPasses (t ++ joined (map sign_tail_tokens (map (λ e. e.0) rest))) (level_if ((stands_at 3 own && has_first (map sign_tail_level (map (λ e. e.0) rest))) && list_all (may_follow is_sum_sign 3) (map sign_tail_level (map (λ e. e.0) rest))) 4)
sum-passes {t} {own} first [] = if-ExprPasses _ 4 (λ h. let none = and-true (stands_at 3 own) false (and-true (stands_at 3 own && false) true h).0 in absurd (false-no none.1))
sum-passes {t} {own} first ((v, tail) ∷ rest) = if-ExprPasses _ 4 (λ h.
    let all : List G = (v, tail) ∷ rest in
    let split = and-true (stands_at 3 own && true) (list_all (may_follow is_sum_sign 3) (map sign_tail_level (map (λ e. e.0) all))) h in
    let there = stands 3 (omega arith) first (and-true (stands_at 3 own) true split.0).0 in
    let here = and-true (may_follow is_sum_sign 3 (sign_tail_level v)) (list_all (may_follow is_sum_sign 3) (map sign_tail_level (map (λ e. e.0) rest))) split.1 in
    let is = and-true (is_sum_sign (sign_tail_level v).0) (stands_at 3 (sign_tail_level v).1) here.0 in
    record {
      begins = λ less. begins-first 3 4 (omega arith) there (joined (map sign_tail_tokens (map (λ e. e.0) all)));
      passes = λ less. chain-some 4 3 (omega arith) (stops 3) (λ rest. stops-less 4 3 rest (omega arith)) (wants_of 3) want.terms terms-passed there.passes
          (sign_tail_tokens v) (map sign_tail_tokens (map (λ e. e.0) rest)) (λ more. is-goes_on 4 _ (tail.begins more ∙ sum-continues (sign_tail_level v).0 is.0)) (sum-rest all split.1);
    })

mul-rest : (rest : List G) → list_all (may_follow is_mul_sign 2) (map sign_tail_level (map (λ e. e.0) rest)) ≡ true → AllLead (stops 2) (want.factors ∷ []) (map sign_tail_tokens (map (λ e. e.0) rest))
mul-rest [] h = tt
mul-rest ((v, own) ∷ rest) h =
    let both = and-true (may_follow is_mul_sign 2 (sign_tail_level v)) (list_all (may_follow is_mul_sign 2) (map sign_tail_level (map (λ e. e.0) rest))) h in
    let here = and-true (is_mul_sign (sign_tail_level v).0) (stands_at 2 (sign_tail_level v).1) both.0 in (
      own.passes 2 (omega arith) here.1 want.factors (stepped want.factors (tok.Sign (sign_tail_level v).0) (neg_wants ++ want.factors ∷ []) (ap (λ (own : Bool). repeated want.factors (go_if own neg_wants)) here.0)),
      (λ more. goes_on-stops 3 2 _ (omega arith) (is-goes_on 3 _ (own.begins more ∙ mul-continues (sign_tail_level v).0 here.0))),
      mul-rest rest both.1,
    )

pub mul-passes : {t : Tokens} {own : ℕ} → ExprPasses t own → (rest : List G) → ExprPasses (t ++ joined (map sign_tail_tokens (map (λ e. e.0) rest))) (level_if ((stands_at 2 own && has_first (map sign_tail_level (map (λ e. e.0) rest))) && list_all (may_follow is_mul_sign 2) (map sign_tail_level (map (λ e. e.0) rest))) 3)
mul-passes {t} {own} first [] = if-ExprPasses _ 3 (λ h. let none = and-true (stands_at 2 own) false (and-true (stands_at 2 own && false) true h).0 in absurd (false-no none.1))
mul-passes {t} {own} first ((v, tail) ∷ rest) = if-ExprPasses _ 3 (λ h.
    let all : List G = (v, tail) ∷ rest in
    let split = and-true (stands_at 2 own && true) (list_all (may_follow is_mul_sign 2) (map sign_tail_level (map (λ e. e.0) all))) h in
    let there = stands 2 (omega arith) first (and-true (stands_at 2 own) true split.0).0 in
    let here = and-true (may_follow is_mul_sign 2 (sign_tail_level v)) (list_all (may_follow is_mul_sign 2) (map sign_tail_level (map (λ e. e.0) rest))) split.1 in
    let is = and-true (is_mul_sign (sign_tail_level v).0) (stands_at 2 (sign_tail_level v).1) here.0 in
    record {
      begins = λ less. begins-first 2 3 (omega arith) there (joined (map sign_tail_tokens (map (λ e. e.0) all)));
      passes = λ less. chain-some 3 2 (omega arith) (stops 2) (λ rest. stops-less 3 2 rest (omega arith)) (wants_of 2) want.factors factors-passed there.passes
          (sign_tail_tokens v) (map sign_tail_tokens (map (λ e. e.0) rest)) (λ more. is-goes_on 3 _ (tail.begins more ∙ mul-continues (sign_tail_level v).0 is.0)) (mul-rest all split.1);
    })

and-rest : (rest : List T) → list_all (stands_at 6) (map tail_level (map (λ e. e.0) rest)) ≡ true → AllLead (stops 6) (want.conjuncts ∷ []) (map (λ own. word key.And ++ own) (map tail_tokens (map (λ e. e.0) rest)))
and-rest [] h = tt
and-rest ((v, own) ∷ rest) h =
    let both = and-true (stands_at 6 (tail_level v)) (list_all (stands_at 6) (map tail_level (map (λ e. e.0) rest))) h in
    (own.passes key.And 6 (omega arith) both.0 want.conjuncts (λ more at rest. refl), (λ more. refl), and-rest rest both.1)

pub and-passes : {t : Tokens} {own : ℕ} → ExprPasses t own → (rest : List T) → ExprPasses (t ++ flat_map (λ own. word key.And ++ own) (map tail_tokens (map (λ e. e.0) rest))) (level_if ((stands_at 6 own && has_first (map tail_level (map (λ e. e.0) rest))) && list_all (stands_at 6) (map tail_level (map (λ e. e.0) rest))) 7)
and-passes {t} {own} first [] = if-ExprPasses _ 7 (λ h. let none = and-true (stands_at 6 own) false (and-true (stands_at 6 own && false) true h).0 in absurd (false-no none.1))
and-passes {t} {own} first ((v, tail) ∷ rest) = if-ExprPasses _ 7 (λ h.
    let all : List T = (v, tail) ∷ rest in
    let toks = map tail_tokens (map (λ e. e.0) all) in
    let split = and-true (stands_at 6 own && true) (list_all (stands_at 6) (map tail_level (map (λ e. e.0) all))) h in
    let there = stands 6 (omega arith) first (and-true (stands_at 6 own) true split.0).0 in
    let P : Tokens → Type 0 = λ own. Leads (stops 7) (wants_of 7) [] (t ++ own) in
    record {
      begins = λ less. begins-first 6 7 (omega arith) there (flat_map (λ own. word key.And ++ own) toks);
      passes = λ less. subst P (flat_map-joined (λ own. word key.And ++ own) toks)
          (chain-some 7 6 (omega arith) (stops 6) (λ rest. stops-less 7 6 rest (omega arith)) (wants_of 6) want.conjuncts conjuncts-passed there.passes
          (word key.And ++ tail_tokens v) (map (λ own. word key.And ++ own) (map tail_tokens (map (λ e. e.0) rest))) (λ more. refl) (and-rest all split.1));
    })

or-rest : (rest : List T) → list_all (stands_at 7) (map tail_level (map (λ e. e.0) rest)) ≡ true → AllLead (stops 7) (want.disjuncts ∷ []) (map (λ own. word key.Or ++ own) (map tail_tokens (map (λ e. e.0) rest)))
or-rest [] h = tt
or-rest ((v, own) ∷ rest) h =
    let both = and-true (stands_at 7 (tail_level v)) (list_all (stands_at 7) (map tail_level (map (λ e. e.0) rest))) h in
    (own.passes key.Or 7 (omega arith) both.0 want.disjuncts (λ more at rest. refl), (λ more. refl), or-rest rest both.1)

pub or-passes : {t : Tokens} {own : ℕ} → ExprPasses t own → (rest : List T) → ExprPasses (t ++ flat_map (λ own. word key.Or ++ own) (map tail_tokens (map (λ e. e.0) rest))) (level_if ((stands_at 7 own && has_first (map tail_level (map (λ e. e.0) rest))) && list_all (stands_at 7) (map tail_level (map (λ e. e.0) rest))) 8)
or-passes {t} {own} first [] = if-ExprPasses _ 8 (λ h. let none = and-true (stands_at 7 own) false (and-true (stands_at 7 own && false) true h).0 in absurd (false-no none.1))
or-passes {t} {own} first ((v, tail) ∷ rest) = if-ExprPasses _ 8 (λ h.
    let all : List T = (v, tail) ∷ rest in
    let toks = map tail_tokens (map (λ e. e.0) all) in
    let split = and-true (stands_at 7 own && true) (list_all (stands_at 7) (map tail_level (map (λ e. e.0) all))) h in
    let there = stands 7 (omega arith) first (and-true (stands_at 7 own) true split.0).0 in
    let P : Tokens → Type 0 = λ own. Leads (stops 8) (wants_of 8) [] (t ++ own) in
    record {
      begins = λ less. begins-first 7 8 (omega arith) there (flat_map (λ own. word key.Or ++ own) toks);
      passes = λ less. subst P (flat_map-joined (λ own. word key.Or ++ own) toks)
          (chain-some 8 7 (omega arith) (stops 7) (λ rest. stops-less 8 7 rest (omega arith)) (wants_of 7) want.disjuncts disjuncts-passed there.passes
          (word key.Or ++ tail_tokens v) (map (λ own. word key.Or ++ own) (map tail_tokens (map (λ e. e.0) rest))) (λ more. refl) (or-rest all split.1));
    })

post-rest : (rest : List S) → all_hold (map is_suffix (map (λ e. e.0) rest)) ≡ true → AllLead any (want.suffixes ∷ []) (map suffix_tokens (map (λ e. e.0) rest))
post-rest [] h = tt
post-rest ((v, own) ∷ rest) h =
    let both = and-true (is_suffix v) (all_hold (map is_suffix (map (λ e. e.0) rest))) h in
    (own.passes both.0, (λ more. refl), post-rest rest both.1)

pub post-passes : {t : Tokens} {own : ℕ} → ExprPasses t own → (rest : List S) → ExprPasses (t ++ joined (map suffix_tokens (map (λ e. e.0) rest))) (level_if ((stands_at 0 own && has_first (map is_suffix (map (λ e. e.0) rest))) && all_hold (map is_suffix (map (λ e. e.0) rest))) 1)
post-passes {t} {own} first [] = if-ExprPasses _ 1 (λ h. let none = and-true (stands_at 0 own) false (and-true (stands_at 0 own && false) true h).0 in absurd (false-no none.1))
post-passes {t} {own} first ((v, tail) ∷ rest) = if-ExprPasses _ 1 (λ h.
    let all : List S = (v, tail) ∷ rest in
    let split = and-true (stands_at 0 own && true) (all_hold (map is_suffix (map (λ e. e.0) all))) h in
    let there = stands 0 (omega arith) first (and-true (stands_at 0 own) true split.0).0 in
    record {
      begins = λ less. begins-first 0 1 (omega arith) there (joined (map suffix_tokens (map (λ e. e.0) all)));
      passes = λ less. chain-some 1 0 (omega arith) any (λ rest h. refl) (wants_of 0) want.suffixes suffixes-passed there.passes
          (suffix_tokens v) (map suffix_tokens (map (λ e. e.0) rest)) (λ more. is-goes_on 1 _ (tail.begins more)) (post-rest all split.1);
    })
