-- Readers of the parts of a model, and what it is that one reads a part: a device for the proof
-- that a list of tokens is spelled by one shaped model at most. A reader looks only at what decides
-- between the forms of the grammar.
use Rattle.std.proofs.Common.{◌≡◌, ℕ, zero, suc, ◌+◌, ◌≤◌, Bool, true, false, not, ◌&&◌, List, [], ◌∷◌, ◌++◌, Option, Some, None, refl, sym, ap, ◌∙◌, arith, append_assoc, max}
use Rattle.std.proofs.lemmas.Bool.Decides.{Decides-eqb}
use Rattle.std.specs.Prelude.{option_and_then, if◌then◌else◌, ◌==◌}
use Rattle.dsde_syntax.specs.declared.token.Tok.{Tok}
use Rattle.dsde_syntax.specs.declared.token.Tok.TheVariants as tok
use Rattle.dsde_words.specs.declared.key.Key.{Key}
use Rattle.dsde_syntax.specs.declared.token.Sign.{Sign}
use Rattle.dsde_syntax.specs.declared.id.Id.{Id}
use Rattle.dsde_syntax.specs.Grammar.{Tokens, id_tokens, joined}
use Rattle.dsde_syntax.specs.Places.{Span, ◌>>◌, token, token_at, begins_at, id_span, all_spans}

-- from the index of the first token and the tokens: what is read, the index of the next token, and
-- the tokens from there on
abbrev pub Reader : Type 0 → Type 0
Reader A = ℕ → Tokens → Option (A × ℕ × Tokens)

abbrev pub bind : {A B : Type 0} → Option (A × ℕ × Tokens) → (A → Reader B) → Option (B × ℕ × Tokens)
bind None next = None
bind (Some got) next = next got.0 got.1 got.2

-- a token that is passed over
abbrev pub skip : Reader (Unit {0})
skip at [] = None
skip at (t ∷ ts) = Some (tt, at + 1, ts)

-- a token's place
abbrev pub place : Reader ℕ
place at [] = None
place at (t ∷ ts) = Some (at, at + 1, ts)

-- the place of the token that comes next
abbrev pub here : Reader ℕ
here at ts = Some (at, at, ts)

abbrev pub ident : Reader Id
ident at (tok.Ident name ∷ ts) = Some (record { name = name; at = at }, at + 1, ts)
ident at _ = None

abbrev pub number : Reader (ℕ × ℕ)
number at (tok.Int value ∷ ts) = Some ((value, at), at + 1, ts)
number at _ = None

abbrev pub a_sign : Reader (Sign × ℕ)
a_sign at (tok.Sign which ∷ ts) = Some ((which, at), at + 1, ts)
a_sign at _ = None

abbrev pub a_key : Reader (Key × ℕ)
a_key at (tok.Key which ∷ ts) = Some ((which, at), at + 1, ts)
a_key at _ = None

abbrev pub pair : {A B : Type 0} → Reader A → Reader B → Reader (A × B)
pair first next at ts = bind (first at ts) (λ a mid left. bind (next mid left) (λ b end rest. Some ((a, b), end, rest)))

abbrev pub made : {A B : Type 0} → (A → B) → Reader A → Reader B
made make reader at ts = bind (reader at ts) (λ a end rest. Some (make a, end, rest))

-- one of two readers, by a test of the tokens
abbrev pub either : {A : Type 0} → (Tokens → Bool) → Reader A → Reader A → Reader A
either test this other at ts = if test ts then this at ts else other at ts

-- as long as a test holds
abbrev pub many : {A : Type 0} → ℕ → (Tokens → Bool) → Reader A → Reader (List A)
many zero test item at ts = Some ([], at, ts)
many (suc n) test item at ts =
    if test ts
    then bind (item at ts) (λ first mid left. bind (many n test item mid left) (λ more end rest. Some (first ∷ more, end, rest)))
    else Some ([], at, ts)

-- where a test holds
abbrev pub maybe : {A : Type 0} → (Tokens → Bool) → Reader A → Reader (Option A)
maybe test item = either test (made Some item) (λ at ts. Some (None, at, ts))

-- whatever follows
abbrev pub any : Tokens → Bool
any ts = true

-- with enough fuel a reader reads a part from its tokens at its span, whatever follows that is fit
-- to follow
pub record Reads {A : Type 0} (fit : Tokens → Bool) (reader : ℕ → Reader A) (value : A) (toks : Tokens) (span : Span) : Type 0 where
  pub least : ℕ
  pub gets : (fuel at end : ℕ) (rest : Tokens) → least ≤ fuel → span at ≡ Some end → fit rest ≡ true → reader fuel at (toks ++ rest) ≡ Some (value, end, rest)

-- the two halves of a span
pub record Halves (first next : Span) (at end : ℕ) : Type 0 where
  pub mid : ℕ
  pub before : first at ≡ Some mid
  pub behind : next mid ≡ Some end

halves-of : (next : Span) (got : Option ℕ) (end : ℕ) → option_and_then next got ≡ Some end → (mid : ℕ) × (got ≡ Some mid) × (next mid ≡ Some end)
halves-of next None end h = cc
halves-of next (Some mid) end h = (mid, refl, h)

pub halves : (first next : Span) (at end : ℕ) → (first >> next) at ≡ Some end → Halves first next at end
halves first next at end h =
    let split = halves-of next (first at) end h in
    record { mid = split.0; before = split.1; behind = split.2 }

pub some_one : {A : Type 0} (x y : A) → Some x ≡ Some y → x ≡ y
some_one x y h = cc

pub token-end : (at end : ℕ) → token at ≡ Some end → at + 1 ≡ end
token-end at end h = some_one (at + 1) end h

begins_if : (test : Bool) (index end : ℕ) → (if test then Some index else None) ≡ Some end → (test ≡ true) × (index ≡ end)
begins_if true index end h = (refl, some_one index end h)
begins_if false index end h = cc

begins_at-end : (place at end : ℕ) → begins_at place at ≡ Some end → (place ≡ at) × (at ≡ end)
begins_at-end place at end h =
    let split = begins_if (place == at) at end h in
    ((Decides-eqb place at).0 split.0, split.1)

-- the place of a token is the index at which it stands
pub token_at-end : (place at end : ℕ) → token_at place at ≡ Some end → (place ≡ at) × (at + 1 ≡ end)
token_at-end place at end h =
    let both = halves (begins_at place) token at end h in
    let begins = begins_at-end place at both.mid both.before in
    (begins.0, ap (λ n. n + 1) begins.1 ∙ token-end both.mid end both.behind)

bind-some : {A B : Type 0} (got : Option (A × ℕ × Tokens)) (next : A → Reader B) (a : A) (at : ℕ) (ts : Tokens) → got ≡ Some (a, at, ts) → bind got next ≡ next a at ts
bind-some got next a at ts h = rw h refl

pub skip-Reads : (t : Tok) → Reads any (λ fuel. skip) tt (t ∷ []) token
skip-Reads t = record {
  least = 0;
  gets = λ fuel at end rest enough is fits. ap (λ n. Some (tt, n, rest)) (token-end at end is);
}

pub place-Reads : (t : Tok) (own : ℕ) → Reads any (λ fuel. place) own (t ∷ []) (token_at own)
place-Reads t own = record {
  least = 0;
  gets = λ fuel at end rest enough is fits. let ends = token_at-end own at end is in rw (ends.0, ends.1) refl;
}

pub here-Reads : (own : ℕ) → Reads any (λ fuel. here) own [] (begins_at own)
here-Reads own = record {
  least = 0;
  gets = λ fuel at end rest enough is fits. let ends = begins_at-end own at end is in rw (ends.0, ends.1) refl;
}

pub ident-Reads : (id : Id) → Reads any (λ fuel. ident) id (id_tokens id) (id_span id)
ident-Reads id = record {
  least = 0;
  gets = λ fuel at end rest enough is fits. let ends = token_at-end id.at at end is in rw (← ends.1, ← ends.0) refl;
}

pub number-Reads : (value own : ℕ) → Reads any (λ fuel. number) (value, own) (tok.Int value ∷ []) (token_at own)
number-Reads value own = record {
  least = 0;
  gets = λ fuel at end rest enough is fits. let ends = token_at-end own at end is in rw (ends.0, ends.1) refl;
}

pub sign-Reads : (which : Sign) (own : ℕ) → Reads any (λ fuel. a_sign) (which, own) (tok.Sign which ∷ []) (token_at own)
sign-Reads which own = record {
  least = 0;
  gets = λ fuel at end rest enough is fits. let ends = token_at-end own at end is in rw (ends.0, ends.1) refl;
}

pub key-Reads : (which : Key) (own : ℕ) → Reads any (λ fuel. a_key) (which, own) (tok.Key which ∷ []) (token_at own)
key-Reads which own = record {
  least = 0;
  gets = λ fuel at end rest enough is fits. let ends = token_at-end own at end is in rw (ends.0, ends.1) refl;
}

-- one part behind another
pub pair-Reads : {A B : Type 0} {fit1 fit2 : Tokens → Bool} {p : ℕ → Reader A} {q : ℕ → Reader B} {a : A} {b : B} {t1 t2 : Tokens} {s1 s2 : Span} → Reads fit1 p a t1 s1 → Reads fit2 q b t2 s2 → ((rest : Tokens) → fit2 rest ≡ true → fit1 (t2 ++ rest) ≡ true) → Reads fit2 (λ fuel. pair (p fuel) (q fuel)) (a, b) (t1 ++ t2) (s1 >> s2)
pair-Reads {A} {B} {fit1} {fit2} {p} {q} {a} {b} {t1} {t2} {s1} {s2} first next follows = record {
  least = max first.least next.least;
  gets = λ fuel at end rest enough is fits.
      let both = halves s1 s2 at end is in
      let here = first.gets fuel at both.mid (t2 ++ rest) (omega arith) both.before (follows rest fits) in
      let there = next.gets fuel both.mid end rest (omega arith) both.behind fits in
      rw (append_assoc t1 t2 rest, here, there) refl;
}

pub made-Reads : {A B : Type 0} {fit : Tokens → Bool} {p : ℕ → Reader A} {a : A} {t : Tokens} {s : Span} (make : A → B) → Reads fit p a t s → Reads fit (λ fuel. made make (p fuel)) (make a) t s
made-Reads {A} {B} {fit} {p} {a} {t} {s} make own = record {
  least = own.least;
  gets = λ fuel at end rest enough is fits. rw (own.gets fuel at end rest enough is fits) refl;
}

-- what is read where less fits to follow
pub fewer-Reads : {A : Type 0} {fit : Tokens → Bool} {p : ℕ → Reader A} {a : A} {t : Tokens} {s : Span} (less : Tokens → Bool) → ((rest : Tokens) → less rest ≡ true → fit rest ≡ true) → Reads fit p a t s → Reads less p a t s
fewer-Reads less h own = record {
  least = own.least;
  gets = λ fuel at end rest enough is fits. own.gets fuel at end rest enough is (h rest fits);
}

pub either-first : {A : Type 0} {fit : Tokens → Bool} {p : ℕ → Reader A} {a : A} {t : Tokens} {s : Span} (q : ℕ → Reader A) (test : Tokens → Bool) → Reads fit p a t s → ((rest : Tokens) → fit rest ≡ true → test (t ++ rest) ≡ true) → Reads fit (λ fuel. either test (p fuel) (q fuel)) a t s
either-first {A} {fit} {p} {a} {t} {s} q test own begins = record {
  least = own.least;
  gets = λ fuel at end rest enough is fits. rw (begins rest fits) (own.gets fuel at end rest enough is fits);
}

pub either-second : {A : Type 0} {fit : Tokens → Bool} {q : ℕ → Reader A} {a : A} {t : Tokens} {s : Span} (p : ℕ → Reader A) (test : Tokens → Bool) → Reads fit q a t s → ((rest : Tokens) → fit rest ≡ true → test (t ++ rest) ≡ false) → Reads fit (λ fuel. either test (p fuel) (q fuel)) a t s
either-second {A} {fit} {q} {a} {t} {s} p test own begins = record {
  least = own.least;
  gets = λ fuel at end rest enough is fits. rw (begins rest fits) (own.gets fuel at end rest enough is fits);
}

-- each of some parts is read, and a test holds where its tokens begin
abbrev pub AllRead : {A : Type 0} → (Tokens → Bool) → (Tokens → Bool) → (ℕ → Reader A) → List A → List Tokens → List Span → Type 0
AllRead test fit item [] [] [] = Unit {0}
AllRead test fit item (v ∷ vs) (t ∷ ts) (s ∷ ss) =
    Reads fit item v t s × ((rest : Tokens) → test (t ++ rest) ≡ true) × AllRead test fit item vs ts ss
AllRead test fit item _ _ _ = ⊥

-- what is fit to follow, and goes on with no further part
abbrev pub ending : (Tokens → Bool) → (Tokens → Bool) → Tokens → Bool
ending test fit rest = not (test rest) && fit rest

pub ending-test : (test fit : Bool) → (not test && fit) ≡ true → test ≡ false
ending-test true fit h = cc
ending-test false fit h = refl

pub ending-fit : (test fit : Bool) → (not test && fit) ≡ true → fit ≡ true
ending-fit true fit h = cc
ending-fit false fit h = h

pub not-true : (b : Bool) → not b ≡ true → b ≡ false
not-true true h = cc
not-true false h = refl

record ManyRead {A : Type 0} (test fit : Tokens → Bool) (item : ℕ → Reader A) (vs : List A) (toks : Tokens) (span : Span) : Type 0 where
  least : ℕ
  gets : (n fuel at end : ℕ) (rest : Tokens) → least ≤ n → least ≤ fuel → span at ≡ Some end → ending test fit rest ≡ true → many n test (item fuel) at (toks ++ rest) ≡ Some (vs, end, rest)

fit_next : (test fit : Tokens → Bool) → ((rest : Tokens) → test rest ≡ true → fit rest ≡ true) → (rest : Tokens) → ending test fit rest ≡ true → fit rest ≡ true
fit_next test fit follows rest h = ending-fit (test rest) (fit rest) h

-- what follows a part of several: the next one, or what is fit to follow them all
pub fit_behind : {A : Type 0} (test fit : Tokens → Bool) (item : ℕ → Reader A) → ((rest : Tokens) → test rest ≡ true → fit rest ≡ true) → (vs : List A) (ts : List Tokens) (ss : List Span) → AllRead test fit item vs ts ss → (rest : Tokens) → ending test fit rest ≡ true → fit (joined ts ++ rest) ≡ true
fit_behind test fit item follows [] [] [] all rest h = ending-fit (test rest) (fit rest) h
fit_behind test fit item follows (v ∷ vs) (t ∷ ts) (s ∷ ss) all rest h =
    follows ((t ++ joined ts) ++ rest) (rw (append_assoc t (joined ts) rest) (all.1 (joined ts ++ rest)))
fit_behind test fit item follows [] [] (s ∷ ss) all rest h = absurd all
fit_behind test fit item follows [] (t ∷ ts) ss all rest h = absurd all
fit_behind test fit item follows (v ∷ vs) [] ss all rest h = absurd all
fit_behind test fit item follows (v ∷ vs) (t ∷ ts) [] all rest h = absurd all

pub many-none : {A : Type 0} (test : Tokens → Bool) (item : Reader A) (n at : ℕ) (rest : Tokens) → test rest ≡ false → many n test item at rest ≡ Some ([], at, rest)
many-none test item zero at rest h = refl
many-none test item (suc n) at rest h = rw h refl

many-more : {A : Type 0} (test : Tokens → Bool) (item : Reader A) (n at : ℕ) (ts : Tokens) (v : A) (mid : ℕ) (left : Tokens) (vs : List A) (end : ℕ) (rest : Tokens) → test ts ≡ true → item at ts ≡ Some (v, mid, left) → many n test item mid left ≡ Some (vs, end, rest) → many (suc n) test item at ts ≡ Some (v ∷ vs, end, rest)
many-more test item n at ts v mid left vs end rest begins first more = rw (begins, first, more) refl

many-gets-more : {A : Type 0} (test fit : Tokens → Bool) (item : ℕ → Reader A) → ((rest : Tokens) → test rest ≡ true → fit rest ≡ true) → (v : A) (vs : List A) (t : Tokens) (ts : List Tokens) (s : Span) (ss : List Span) → (all : AllRead test fit item (v ∷ vs) (t ∷ ts) (s ∷ ss)) → (more : ManyRead test fit item vs (joined ts) (all_spans ss)) → (n fuel at end : ℕ) (rest : Tokens) → suc (max all.0.least more.least) ≤ n → suc (max all.0.least more.least) ≤ fuel → (s >> all_spans ss) at ≡ Some end → ending test fit rest ≡ true → many n test (item fuel) at ((t ++ joined ts) ++ rest) ≡ Some (v ∷ vs, end, rest)
many-gets-more test fit item follows v vs t ts s ss all more zero fuel at end rest enough1 enough2 is fits = absurd (omega arith)
many-gets-more test fit item follows v vs t ts s ss all more (suc n) fuel at end rest enough1 enough2 is fits =
    let both = halves s (all_spans ss) at end is in
    let left = joined ts ++ rest in
    let here = all.0.gets fuel at both.mid left (omega arith) both.before (fit_behind test fit item follows vs ts ss all.2 rest fits) in
    let there = more.gets n fuel both.mid end rest (omega arith) (omega arith) both.behind fits in
    rw (append_assoc t (joined ts) rest) (many-more test (item fuel) n at (t ++ left) v both.mid left vs end rest (all.1 left) here there)

many-gets : {A : Type 0} (test fit : Tokens → Bool) (item : ℕ → Reader A) → ((rest : Tokens) → test rest ≡ true → fit rest ≡ true) → (vs : List A) (ts : List Tokens) (ss : List Span) → AllRead test fit item vs ts ss → ManyRead test fit item vs (joined ts) (all_spans ss)
many-gets test fit item follows [] [] [] all = record {
  least = 0;
  gets = λ n fuel at end rest enough1 enough2 is fits.
      many-none test (item fuel) n at rest (ending-test (test rest) (fit rest) fits) ∙ ap (λ k. Some ([], k, rest)) (some_one at end is);
}
many-gets test fit item follows (v ∷ vs) (t ∷ ts) (s ∷ ss) all =
    let own = all.0 in
    let more = many-gets test fit item follows vs ts ss all.2 in
    record {
      least = suc (max own.least more.least);
      gets = many-gets-more test fit item follows v vs t ts s ss all more;
    }
many-gets test fit item follows [] [] (s ∷ ss) all = absurd all
many-gets test fit item follows [] (t ∷ ts) ss all = absurd all
many-gets test fit item follows (v ∷ vs) [] ss all = absurd all
many-gets test fit item follows (v ∷ vs) (t ∷ ts) [] all = absurd all

-- several parts, one behind another
pub many-Reads : {A : Type 0} (test fit : Tokens → Bool) (item : ℕ → Reader A) → ((rest : Tokens) → test rest ≡ true → fit rest ≡ true) → (vs : List A) (ts : List Tokens) (ss : List Span) → AllRead test fit item vs ts ss → Reads (ending test fit) (λ fuel. many fuel test (item fuel)) vs (joined ts) (all_spans ss)
many-Reads test fit item follows vs ts ss all =
    let own = many-gets test fit item follows vs ts ss all in
    record { least = own.least; gets = λ fuel at end rest enough is fits. own.gets fuel fuel at end rest enough enough is fits }

-- a part that is left out, and one that is written
pub maybe-none : {A : Type 0} (test : Tokens → Bool) (item : ℕ → Reader A) → Reads (λ rest. not (test rest)) (λ fuel. maybe test (item fuel)) None [] Some
maybe-none test item = record {
  least = 0;
  gets = λ fuel at end rest enough is fits. rw (not-true (test rest) fits, some_one at end is) refl;
}

pub maybe-some : {A : Type 0} {fit : Tokens → Bool} {item : ℕ → Reader A} {v : A} {t : Tokens} {s : Span} (test : Tokens → Bool) → Reads fit item v t s → ((rest : Tokens) → fit rest ≡ true → test (t ++ rest) ≡ true) → Reads fit (λ fuel. maybe test (item fuel)) (Some v) t s
maybe-some {A} {fit} {item} {v} {t} {s} test own begins = either-first (λ fuel at ts. Some (None, at, ts)) test (made-Reads Some own) begins

behind-behind : (s2 s3 : Span) (got : Option ℕ) → option_and_then s3 (option_and_then s2 got) ≡ option_and_then (s2 >> s3) got
behind-behind s2 s3 None = refl
behind-behind s2 s3 (Some mid) = refl

-- three parts, grouped to the left
pub left-Reads : {A : Type 0} {fit : Tokens → Bool} {p : ℕ → Reader A} {v : A} (t1 t2 t3 : Tokens) (s1 s2 s3 : Span) → Reads fit p v (t1 ++ (t2 ++ t3)) (s1 >> (s2 >> s3)) → Reads fit p v ((t1 ++ t2) ++ t3) ((s1 >> s2) >> s3)
left-Reads {A} {fit} {p} {v} t1 t2 t3 s1 s2 s3 own = record {
  least = own.least;
  gets = λ fuel at end rest enough is fits.
      rw (append_assoc t1 t2 t3) (own.gets fuel at end rest enough (sym (behind-behind s2 s3 (s1 at)) ∙ is) fits);
}

abbrev pub a_word : Reader Key
a_word at (tok.Key which ∷ ts) = Some (which, at + 1, ts)
a_word at _ = None

pub word-Reads : (which : Key) → Reads any (λ fuel. a_word) which (tok.Key which ∷ []) token
word-Reads which = record {
  least = 0;
  gets = λ fuel at end rest enough is fits. ap (λ n. Some (which, n, rest)) (token-end at end is);
}
