-- The wants of each level of expressions, and that an expression of a lower level passes them too.
use Rattle.std.proofs.Common.{◌≡◌, ℕ, zero, suc, ◌+◌, ◌-◌, ◌<◌, ◌≤◌, Bool, true, false, List, [], ◌∷◌, ◌++◌, refl, ap, subst, ◌∙◌, arith, append_assoc}
use Rattle.std.specs.Prelude.{nat_lt}
use Rattle.std.proofs.lemmas.Bool.Decides.{nat_tests}
use Rattle.dsde_syntax.specs.declared.token.Tok.TheVariants as tok
use Rattle.dsde_words.specs.declared.key.Key.{Key}
use Rattle.dsde_words.specs.declared.key.Key.TheVariants as key
use Rattle.dsde_syntax.specs.declared.token.Sign.{Sign}
use Rattle.dsde_syntax.specs.declared.token.Sign.TheVariants as sign
use Rattle.dsde_syntax.specs.Grammar.{Tokens, joined}
use Rattle.dsde_syntax.specs.Levels.{level_if, stands_at}
use Rattle.dsde_parser_grammar.proofs.ExprReaders.{continues, stops, goes_on, begin_of}
use Rattle.dsde_parser_grammar.proofs.LevelReads.{goes_on-stops}
use Rattle.dsde_parser_grammar.specs.Want.{Want}
use Rattle.dsde_parser_grammar.specs.Want as want
use Rattle.dsde_parser_grammar.specs.Steps.{Wants, post_wants, neg_wants, mul_wants, sum_wants, cmp_wants, not_wants, and_wants, or_wants, expr_wants, stop}
use Rattle.dsde_parser_grammar.proofs.Leading.{Leads, AllLead, pair, beside, fewer, turned, passed, skipped, ended, several}

-- what an expression of a level is wanted as
abbrev pub wants_of : ℕ → Wants
wants_of zero = want.prim ∷ []
wants_of (suc zero) = post_wants
wants_of (suc (suc zero)) = neg_wants
wants_of (suc (suc (suc zero))) = mul_wants
wants_of (suc (suc (suc (suc zero)))) = sum_wants
wants_of (suc (suc (suc (suc (suc zero))))) = cmp_wants
wants_of (suc (suc (suc (suc (suc (suc zero)))))) = not_wants
wants_of (suc (suc (suc (suc (suc (suc (suc zero))))))) = and_wants
wants_of (suc (suc (suc (suc (suc (suc (suc (suc zero)))))))) = or_wants
wants_of (suc (suc (suc (suc (suc (suc (suc (suc (suc level))))))))) = expr_wants

-- what goes on with no chain is passed over

pub after_name-passed : (rest : Tokens) → stops 0 rest ≡ true → passed want.after_name rest ≡ true
after_name-passed (tok.Sign sign.OpenParen ∷ rest) h = cc
after_name-passed (tok.Sign sign.ColonColon ∷ rest) h = cc
after_name-passed _ h = refl

pub suffixes-passed : (rest : Tokens) → stops 1 rest ≡ true → passed want.suffixes rest ≡ true
suffixes-passed (tok.Sign sign.Dot ∷ rest) h = cc
suffixes-passed (tok.Sign sign.OpenBracket ∷ rest) h = cc
suffixes-passed (tok.Sign sign.Bang ∷ rest) h = cc
suffixes-passed _ h = refl

pub factors-passed : (rest : Tokens) → stops 3 rest ≡ true → passed want.factors rest ≡ true
factors-passed (tok.Sign sign.Star ∷ rest) h = cc
factors-passed (tok.Sign sign.Slash ∷ rest) h = cc
factors-passed (tok.Sign sign.Percent ∷ rest) h = cc
factors-passed (tok.Sign sign.StarBar ∷ rest) h = cc
factors-passed _ h = refl

pub terms-passed : (rest : Tokens) → stops 4 rest ≡ true → passed want.terms rest ≡ true
terms-passed (tok.Sign sign.Plus ∷ rest) h = cc
terms-passed (tok.Sign sign.Minus ∷ rest) h = cc
terms-passed (tok.Sign sign.PlusBar ∷ rest) h = cc
terms-passed (tok.Sign sign.MinusBar ∷ rest) h = cc
terms-passed (tok.Sign sign.PlusPlus ∷ rest) h = cc
terms-passed _ h = refl

pub comparison-passed : (rest : Tokens) → stops 5 rest ≡ true → passed want.comparison rest ≡ true
comparison-passed (tok.Sign sign.EqualEqual ∷ rest) h = cc
comparison-passed (tok.Sign sign.NotEqual ∷ rest) h = cc
comparison-passed (tok.Sign sign.Less ∷ rest) h = cc
comparison-passed (tok.Sign sign.LessEqual ∷ rest) h = cc
comparison-passed (tok.Sign sign.Greater ∷ rest) h = cc
comparison-passed (tok.Sign sign.GreaterEqual ∷ rest) h = cc
comparison-passed _ h = refl

pub conjuncts-passed : (rest : Tokens) → stops 7 rest ≡ true → passed want.conjuncts rest ≡ true
conjuncts-passed (tok.Key key.And ∷ rest) h = cc
conjuncts-passed _ h = refl

pub disjuncts-passed : (rest : Tokens) → stops 8 rest ≡ true → passed want.disjuncts rest ≡ true
disjuncts-passed (tok.Key key.Or ∷ rest) h = cc
disjuncts-passed _ h = refl

pub fallback-passed : (rest : Tokens) → stops 9 rest ≡ true → passed want.fallback rest ≡ true
fallback-passed (tok.Sign sign.QuestionQuestion ∷ rest) h = cc
fallback-passed _ h = refl

-- "-" and "not" are passed over by what begins with neither

minus-passed : (ts : Tokens) → begin_of ts ≤ 1 → passed want.minus ts ≡ true
minus-passed (tok.Sign sign.Minus ∷ rest) h = absurd (omega arith)
minus-passed _ h = refl

negation-passed : (ts : Tokens) → begin_of ts ≤ 5 → passed want.negation ts ≡ true
negation-passed (tok.Key key.Not ∷ rest) h = absurd (omega arith)
negation-passed _ h = refl

-- an expression passes the wants of its level, and begins with a token of that level
pub record ExprPasses (t : Tokens) (own : ℕ) : Type 0 where
  pub begins : own ≤ 9 → (rest : Tokens) → begin_of (t ++ rest) ≤ own
  pub passes : own ≤ 9 → Leads (stops own) (wants_of own) [] t

pub if-ExprPasses : {t : Tokens} (b : Bool) (own : ℕ) → (b ≡ true → ExprPasses t own) → ExprPasses t (level_if b own)
if-ExprPasses true own h = h refl
if-ExprPasses false own h = record { begins = λ less. absurd (omega arith); passes = λ less. absurd (omega arith) }

stops-lower : (k : ℕ) (rest : Tokens) → stops (suc k) rest ≡ true → stops k rest ≡ true
stops-lower k rest h = lower k (continues rest) h
  where
    lower : (k c : ℕ) → nat_lt (suc k) c ≡ true → nat_lt k c ≡ true
    lower k c h = grind (arith, nat_tests)

-- a chain of one part
chain-none : {t : Tokens} (k : ℕ) (lower : Wants) (want : Want) → ((rest : Tokens) → stops (suc k) rest ≡ true → passed want rest ≡ true) → Leads (stops k) lower [] t → Leads (stops (suc k)) (lower ++ want ∷ []) [] t
chain-none k lower want over own = ended (stops (suc k)) want (beside own (want ∷ [])) (λ rest. stops-lower k rest) over

-- what passes a level passes the next higher one
lift : (k : ℕ) → k < 9 → {t : Tokens} → ((rest : Tokens) → begin_of (t ++ rest) ≤ k) → Leads (stops k) (wants_of k) [] t → Leads (stops (suc k)) (wants_of (suc k)) [] t
lift zero less begins own = chain-none 0 (wants_of 0) want.suffixes suffixes-passed own
lift (suc zero) less begins own = skipped want.minus (fewer (stops 2) (λ rest. stops-lower 1 rest) own) (λ rest h. minus-passed _ (begins rest))
lift (suc (suc zero)) less begins own = chain-none 2 (wants_of 2) want.factors factors-passed own
lift (suc (suc (suc zero))) less begins own = chain-none 3 (wants_of 3) want.terms terms-passed own
lift (suc (suc (suc (suc zero)))) less begins own = chain-none 4 (wants_of 4) want.comparison comparison-passed own
lift (suc (suc (suc (suc (suc zero))))) less begins own = skipped want.negation (fewer (stops 6) (λ rest. stops-lower 5 rest) own) (λ rest h. negation-passed _ (begins rest))
lift (suc (suc (suc (suc (suc (suc zero)))))) less begins own = chain-none 6 (wants_of 6) want.conjuncts conjuncts-passed own
lift (suc (suc (suc (suc (suc (suc (suc zero))))))) less begins own = chain-none 7 (wants_of 7) want.disjuncts disjuncts-passed own
lift (suc (suc (suc (suc (suc (suc (suc (suc zero)))))))) less begins own = chain-none 8 (wants_of 8) want.fallback fallback-passed own
lift (suc (suc (suc (suc (suc (suc (suc (suc (suc k))))))))) less begins own = absurd (omega arith)

raised : (own d : ℕ) → own + d ≤ 9 → {t : Tokens} → ExprPasses t own → Leads (stops (own + d)) (wants_of (own + d)) [] t
raised own zero less {t} is =
    let same : own ≡ own + 0 = omega arith in
    let P : ℕ → Type 0 = λ k. Leads (stops k) (wants_of k) [] t in
    subst P same (is.passes (omega arith))
raised own (suc d) less {t} is =
    let same : suc (own + d) ≡ own + suc d = omega arith in
    let P : ℕ → Type 0 = λ k. Leads (stops k) (wants_of k) [] t in
    subst P same (lift (own + d) (omega arith) (λ rest. omega (arith, is.begins (omega arith) rest)) (raised own d (omega arith) is))

-- an expression that may stand at a level passes its wants
pub record StandsAt (k : ℕ) (t : Tokens) : Type 0 where
  pub begins : (rest : Tokens) → begin_of (t ++ rest) ≤ k
  pub passes : Leads (stops k) (wants_of k) [] t

le-stands : (k own : ℕ) → stands_at k own ≡ true → own ≤ k
le-stands k own h = grind (arith, nat_tests)

pub stands : (k : ℕ) → k ≤ 9 → {t : Tokens} {own : ℕ} → ExprPasses t own → stands_at k own ≡ true → StandsAt k t
stands k less {t} {own} is h =
    let below : own ≤ k = le-stands k own h in
    let same : own + (k - own) ≡ k = omega arith in
    let P : ℕ → Type 0 = λ k. Leads (stops k) (wants_of k) [] t in
    record {
      begins = λ rest. omega (arith, is.begins (omega arith) rest);
      passes = subst P same (raised own (k - own) (omega arith) is);
    }

-- the one want of an expression goes as those of its level
expr-wants : (more : Wants) (at : ℕ) (ts : Tokens) → stop (want.expr ∷ more) at ts ≡ stop (expr_wants ++ more) at ts
expr-wants more at [] = refl
expr-wants more at (tok.Key key.Not ∷ ts) = refl
expr-wants more at (tok.Sign sign.Minus ∷ ts) = refl
expr-wants more at (tok.Int value ∷ ts) = refl
expr-wants more at (tok.Ident name ∷ ts) = refl
expr-wants more at (tok.Key which ∷ ts) = expr-key which more at ts
  where
    expr-key : (which : Key) (more : Wants) (at : ℕ) (ts : Tokens) → stop (want.expr ∷ more) at (tok.Key which ∷ ts) ≡ stop (expr_wants ++ more) at (tok.Key which ∷ ts)
    expr-key key.Not more at ts = refl
    expr-key _ more at ts = refl
expr-wants more at (tok.Sign which ∷ ts) = expr-sign which more at ts
  where
    expr-sign : (which : Sign) (more : Wants) (at : ℕ) (ts : Tokens) → stop (want.expr ∷ more) at (tok.Sign which ∷ ts) ≡ stop (expr_wants ++ more) at (tok.Sign which ∷ ts)
    expr-sign sign.Minus more at ts = refl
    expr-sign _ more at ts = refl

-- a whole expression
pub record WholeExpr (t : Tokens) : Type 0 where
  pub begins : (rest : Tokens) → begin_of (t ++ rest) ≤ 9
  pub passes : Leads (stops 9) (want.expr ∷ []) [] t

pub whole : {t : Tokens} {own : ℕ} → ExprPasses t own → stands_at 9 own ≡ true → WholeExpr t
whole {t} {own} is h =
    let there = stands 9 (omega arith) is h in
    record { begins = there.begins; passes = turned there.passes (λ more at rest fits. expr-wants more at (t ++ rest)) }

-- a chain of several parts
pub chain-some : {t : Tokens} (k j : ℕ) → j < k → (fit : Tokens → Bool) → ((rest : Tokens) → stops k rest ≡ true → fit rest ≡ true) → (lower : Wants) (want : Want) → ((rest : Tokens) → stops k rest ≡ true → passed want rest ≡ true) → Leads (stops j) lower [] t → (t1 : Tokens) (ts : List Tokens) → ((rest : Tokens) → goes_on k (t1 ++ rest) ≡ true) → AllLead fit (want ∷ []) (t1 ∷ ts) → Leads (stops k) (lower ++ want ∷ []) [] (t ++ joined (t1 ∷ ts))
chain-some k j less fit ends lower want over own t1 ts begins all =
    let more = ended (stops k) want (several fit (want ∷ []) (t1 ∷ ts) all) ends over in
    pair (beside own (want ∷ [])) more (λ rest h. goes_on-stops k j ((t1 ++ joined ts) ++ rest) less (ap (λ (toks : Tokens). goes_on k toks) (append_assoc t1 (joined ts) rest) ∙ begins (joined ts ++ rest)))
