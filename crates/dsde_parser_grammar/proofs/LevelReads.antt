-- A reader of a level reads each expression of a lower one.
use Rattle.std.proofs.Common.{◌≡◌, ℕ, zero, suc, ◌+◌, ◌-◌, ◌<◌, ◌≤◌, Bool, true, false, not, ◌&&◌, List, ◌∷◌, ◌++◌, Some, refl, subst, arith, append_assoc}
use Rattle.std.specs.Prelude.{◌==◌, nat_lt}
use Rattle.std.proofs.lemmas.Bool.Decides.{nat_tests}
use Rattle.dsde_syntax.specs.declared.expr.Expr.{Expr}
use Rattle.dsde_syntax.specs.Grammar.{Tokens, joined}
use Rattle.dsde_syntax.specs.Places.{Span, ◌>>◌, all_spans}
use Rattle.dsde_syntax.specs.Levels.{level_if, stands_at}
use Rattle.dsde_parser_grammar.proofs.Reading.{Reader, Reads, AllRead, pair, made, maybe, many-none, many-Reads, pair-Reads, made-Reads, fewer-Reads, either-second, a_sign, place}
use Rattle.dsde_parser_grammar.proofs.ExprReaders.{continues, stops, goes_on, begin_of, level, chain, chained, compared, or_else, read_expr, post_of, mul_of, sum_of, and_of, or_of}

-- an expression is read at its level, and begins with a token of that level
pub record ExprReads (e : Expr) (t : Tokens) (own : ℕ) (s : Span) : Type 0 where
  pub begins : own ≤ 9 → (rest : Tokens) → begin_of (t ++ rest) ≤ own
  pub reads : own ≤ 9 → Reads (stops own) (λ n. level own n (read_expr n)) e t s

pub if-ExprReads : {e : Expr} {t : Tokens} {s : Span} (b : Bool) (own : ℕ) → (b ≡ true → ExprReads e t own s) → ExprReads e t (level_if b own) s
if-ExprReads true own h = h refl
if-ExprReads false own h = record { begins = λ less. absurd (omega arith); reads = λ less. absurd (omega arith) }

stops-lower : (k : ℕ) (rest : Tokens) → stops (suc k) rest ≡ true → stops k rest ≡ true
stops-lower k rest h = let c = continues rest in let h' : nat_lt (suc k) c ≡ true = h in lower k c h'
  where
    lower : (k c : ℕ) → nat_lt (suc k) c ≡ true → nat_lt k c ≡ true
    lower k c h = grind (arith, nat_tests)

stops-no_more : (k : ℕ) (rest : Tokens) → stops k rest ≡ true → goes_on k rest ≡ false
stops-no_more k rest h = no_more k (continues rest) h
  where
    no_more : (k c : ℕ) → nat_lt k c ≡ true → (c == k) ≡ false
    no_more k c h = grind (arith, nat_tests)

pub goes_on-stops : (k j : ℕ) (rest : Tokens) → j < k → goes_on k rest ≡ true → stops j rest ≡ true
goes_on-stops k j rest less h = stopped k j (continues rest) less h
  where
    stopped : (k j c : ℕ) → j < k → (c == k) ≡ true → nat_lt j c ≡ true
    stopped k j c less h = grind (arith, nat_tests)

pub stops-less : (k j : ℕ) (rest : Tokens) → j ≤ k → stops k rest ≡ true → stops j rest ≡ true
stops-less k j rest less h = stopped k j (continues rest) less h
  where
    stopped : (k j c : ℕ) → j ≤ k → nat_lt k c ≡ true → nat_lt j c ≡ true
    stopped k j c less h = grind (arith, nat_tests)

not_begin : (a b : ℕ) → a < b → (a == b) ≡ false
not_begin a b h = grind (arith, nat_tests)

-- a chain of one part
chain-none : {B : Type 0} {e : Expr} {t : Tokens} {s : Span} (link : Expr → List B → Expr) (k : ℕ) (more : ℕ → Reader B) (lower : ℕ → Reader Expr) → Reads (stops k) lower e t s → Reads (stops (suc k)) (λ n. chain link (suc k) n (more n) (lower n)) e t s
chain-none link k more lower own = record {
  least = own.least;
  gets = λ fuel at end rest enough is fits.
      rw (own.gets fuel at end rest enough is (stops-lower k rest fits), many-none (goes_on (suc k)) (more fuel) fuel end rest (stops-no_more (suc k) rest fits)) refl;
}

compared-none : {e : Expr} {t : Tokens} {s : Span} (lower : ℕ → Reader Expr) → Reads (stops 4) lower e t s → Reads (stops 5) (λ n. made compared (pair (lower n) (maybe (goes_on 5) (pair a_sign (lower n))))) e t s
compared-none lower own = record {
  least = own.least;
  gets = λ fuel at end rest enough is fits.
      rw (own.gets fuel at end rest enough is (stops-lower 4 rest fits), stops-no_more 5 rest fits) refl;
}

or_else-none : {e : Expr} {t : Tokens} {s : Span} (lower : ℕ → Reader Expr) → Reads (stops 8) lower e t s → Reads (stops 9) (λ n. made or_else (pair (lower n) (maybe (goes_on 9) (pair place (lower n))))) e t s
or_else-none lower own = record {
  least = own.least;
  gets = λ fuel at end rest enough is fits.
      rw (own.gets fuel at end rest enough is (stops-lower 8 rest fits), stops-no_more 9 rest fits) refl;
}

-- what is read at a level is read at the next higher one
lift : (k : ℕ) → k < 9 → {e : Expr} {t : Tokens} {s : Span} → ((rest : Tokens) → begin_of (t ++ rest) ≤ k) → Reads (stops k) (λ n. level k n (read_expr n)) e t s → Reads (stops (suc k)) (λ n. level (suc k) n (read_expr n)) e t s
lift zero less begins own = chain-none post_of 0 _ (λ n. level 0 n (read_expr n)) own
lift (suc zero) less begins own =
    either-second _ (λ ts. begin_of ts == 2) (fewer-Reads (stops 2) (λ rest. stops-lower 1 rest) own) (λ rest h. not_begin _ 2 (omega (arith, begins rest)))
lift (suc (suc zero)) less begins own = chain-none mul_of 2 _ (λ n. level 2 n (read_expr n)) own
lift (suc (suc (suc zero))) less begins own = chain-none sum_of 3 _ (λ n. level 3 n (read_expr n)) own
lift (suc (suc (suc (suc zero)))) less begins own = compared-none (λ n. level 4 n (read_expr n)) own
lift (suc (suc (suc (suc (suc zero))))) less begins own =
    either-second _ (λ ts. begin_of ts == 6) (fewer-Reads (stops 6) (λ rest. stops-lower 5 rest) own) (λ rest h. not_begin _ 6 (omega (arith, begins rest)))
lift (suc (suc (suc (suc (suc (suc zero)))))) less begins own = chain-none and_of 6 _ (λ n. level 6 n (read_expr n)) own
lift (suc (suc (suc (suc (suc (suc (suc zero))))))) less begins own = chain-none or_of 7 _ (λ n. level 7 n (read_expr n)) own
lift (suc (suc (suc (suc (suc (suc (suc (suc zero)))))))) less begins own = or_else-none (λ n. level 8 n (read_expr n)) own
lift (suc (suc (suc (suc (suc (suc (suc (suc (suc k))))))))) less begins own = absurd (omega arith)

raised : (own d : ℕ) → own + d ≤ 9 → {e : Expr} {t : Tokens} {s : Span} → ExprReads e t own s → Reads (stops (own + d)) (λ n. level (own + d) n (read_expr n)) e t s
raised own zero less {e} {t} {s} is =
    let same : own ≡ own + 0 = omega arith in
    let P : ℕ → Type 0 = λ k. Reads (stops k) (λ n. level k n (read_expr n)) e t s in
    subst P same (is.reads (omega arith))
raised own (suc d) less {e} {t} {s} is =
    let same : suc (own + d) ≡ own + suc d = omega arith in
    let P : ℕ → Type 0 = λ k. Reads (stops k) (λ n. level k n (read_expr n)) e t s in
    subst P same (lift (own + d) (omega arith) (λ rest. omega (arith, is.begins (omega arith) rest)) (raised own d (omega arith) is))

-- an expression that may stand at a level is read there
pub record StandsAt (k : ℕ) (e : Expr) (t : Tokens) (s : Span) : Type 0 where
  pub begins : (rest : Tokens) → begin_of (t ++ rest) ≤ k
  pub reads : Reads (stops k) (λ n. level k n (read_expr n)) e t s

le-stands : (k own : ℕ) → stands_at k own ≡ true → own ≤ k
le-stands k own h = grind (arith, nat_tests)

pub stands : (k : ℕ) → k ≤ 9 → {e : Expr} {t : Tokens} {own : ℕ} {s : Span} → ExprReads e t own s → stands_at k own ≡ true → StandsAt k e t s
stands k less {e} {t} {own} {s} is h =
    let below : own ≤ k = le-stands k own h in
    let same : own + (k - own) ≡ k = omega arith in
    let P : ℕ → Type 0 = λ k. Reads (stops k) (λ n. level k n (read_expr n)) e t s in
    record {
      begins = λ rest. omega (arith, is.begins (omega arith) rest);
      reads = subst P same (raised own (k - own) (omega arith) is);
    }

whole-gets : {e : Expr} {t : Tokens} {s : Span} (own : Reads (stops 9) (λ n. level 9 n (read_expr n)) e t s) (fuel at end : ℕ) (rest : Tokens) → suc own.least ≤ fuel → s at ≡ Some end → stops 9 rest ≡ true → read_expr fuel at (t ++ rest) ≡ Some (e, end, rest)
whole-gets own zero at end rest enough is fits = absurd (omega arith)
whole-gets own (suc n) at end rest enough is fits = own.gets n at end rest (omega arith) is fits

-- a whole expression
pub record WholeExpr (e : Expr) (t : Tokens) (s : Span) : Type 0 where
  pub begins : (rest : Tokens) → begin_of (t ++ rest) ≤ 9
  pub reads : Reads (stops 9) read_expr e t s

pub whole : {e : Expr} {t : Tokens} {own : ℕ} {s : Span} → ExprReads e t own s → stands_at 9 own ≡ true → WholeExpr e t s
whole {e} {t} {own} {s} is h =
    let there = stands 9 (omega arith) is h in
    record { begins = there.begins; reads = record { least = suc there.reads.least; gets = whole-gets there.reads } }

first-test : {A : Type 0} (test fit : Tokens → Bool) (item : ℕ → Reader A) (v : A) (vs : List A) (t : Tokens) (ts : List Tokens) (s : Span) (ss : List Span) → AllRead test fit item (v ∷ vs) (t ∷ ts) (s ∷ ss) → (rest : Tokens) → test (joined (t ∷ ts) ++ rest) ≡ true
first-test test fit item v vs t ts s ss all rest = rw (append_assoc t (joined ts) rest) (all.1 (joined ts ++ rest))

-- a chain of several parts
pub chain-some : {B : Type 0} {e : Expr} {t : Tokens} {s : Span} (link : Expr → List B → Expr) (k j : ℕ) → j < k → (fit : Tokens → Bool) → ((rest : Tokens) → goes_on k rest ≡ true → fit rest ≡ true) → ((rest : Tokens) → stops k rest ≡ true → fit rest ≡ true) → (item : ℕ → Reader B) (lower : ℕ → Reader Expr) → Reads (stops j) lower e t s → (v : B) (vs : List B) (t1 : Tokens) (ts : List Tokens) (s1 : Span) (ss : List Span) → AllRead (goes_on k) fit item (v ∷ vs) (t1 ∷ ts) (s1 ∷ ss) → Reads (stops k) (λ n. chain link k n (item n) (lower n)) (link e (v ∷ vs)) (t ++ joined (t1 ∷ ts)) (s >> all_spans (s1 ∷ ss))
chain-some link k j less fit follows ends item lower own v vs t1 ts s1 ss all =
    let more = many-Reads (goes_on k) fit item follows (v ∷ vs) (t1 ∷ ts) (s1 ∷ ss) all in
    let several = fewer-Reads (stops k) (λ rest h. both-true (goes_on k rest) (fit rest) (stops-no_more k rest h) (ends rest h)) more in
    made-Reads (chained link) (pair-Reads own several (λ rest h. goes_on-stops k j (joined (t1 ∷ ts) ++ rest) less (first-test (goes_on k) fit item v vs t1 ts s1 ss all rest)))
  where
    both-true : (a b : Bool) → a ≡ false → b ≡ true → (not a && b) ≡ true
    both-true true b h1 h2 = cc
    both-true false b h1 h2 = h2
