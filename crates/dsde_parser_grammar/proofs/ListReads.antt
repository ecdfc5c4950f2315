-- The readers of lists of parts.
use Rattle.std.proofs.Common.{◌≡◌, ℕ, Bool, true, false, ◌&&◌, List, [], ◌∷◌, ◌++◌, map, Some, refl, ap, subst}
use Rattle.std.specs.Prelude.{flat_map}
use Rattle.dsde_syntax.specs.declared.token.Tok.{Tok}
use Rattle.dsde_syntax.specs.Grammar.{Tokens, joined}
use Rattle.dsde_syntax.specs.Places.{Span, ◌>>◌, token, all_spans}
use Rattle.dsde_parser_grammar.proofs.Reading.{Reader, Reads, AllRead, any, ending, skip, pair, many-Reads, pair-Reads, made-Reads, skip-Reads, fit_behind, some_one}
use Rattle.dsde_parser_grammar.proofs.ExprReaders.{separated, nothing}

pub and-true : (a b : Bool) → (a && b) ≡ true → (a ≡ true) × (b ≡ true)
and-true true b h = (refl, h)
and-true false b h = cc

pub true-and : (a b : Bool) → a ≡ true → b ≡ true → (a && b) ≡ true
true-and true b h1 h2 = h2
true-and false b h1 h2 = cc

pub flat_map-joined : (f : Tokens → Tokens) (ts : List Tokens) → joined (map f ts) ≡ flat_map f ts
flat_map-joined f [] = refl
flat_map-joined f (t ∷ ts) = ap (λ (more : Tokens). f t ++ more) (flat_map-joined f ts)

behind-all : {A : Type 0} (vs : List A) → map (λ (w : Unit {0} × A). w.1) (map (λ v. (tt, v)) vs) ≡ vs
behind-all [] = refl
behind-all (v ∷ vs) = ap (λ more. v ∷ more) (behind-all vs)

-- the parts behind the first one, each behind its separator
separated-all : {A : Type 0} (sep : Tok) (test test_item fit : Tokens → Bool) (item : ℕ → Reader A) → ((ts : Tokens) → test_item ts ≡ true → test (sep ∷ ts) ≡ true) → (vs : List A) (ts : List Tokens) (ss : List Span) → AllRead test_item fit item vs ts ss → AllRead test fit (λ n. pair skip (item n)) (map (λ v. (tt, v)) vs) (map (λ t. (sep ∷ []) ++ t) ts) (map (λ s. token >> s) ss)
separated-all sep test test_item fit item turn [] [] [] all = tt
separated-all sep test test_item fit item turn (v ∷ vs) (t ∷ ts) (s ∷ ss) all =
    (pair-Reads (skip-Reads sep) all.0 (λ rest h. refl), (λ rest. turn (t ++ rest) (all.1 rest)), separated-all sep test test_item fit item turn vs ts ss all.2)
separated-all sep test test_item fit item turn [] [] (s ∷ ss) all = absurd all
separated-all sep test test_item fit item turn [] (t ∷ ts) ss all = absurd all
separated-all sep test test_item fit item turn (v ∷ vs) [] ss all = absurd all
separated-all sep test test_item fit item turn (v ∷ vs) (t ∷ ts) [] all = absurd all

-- part {separator part}
pub separated-Reads : {A : Type 0} (sep : Tok) (test test_item fit : Tokens → Bool) (item : ℕ → Reader A) → ((ts : Tokens) → test_item ts ≡ true → test (sep ∷ ts) ≡ true) → ((rest : Tokens) → test rest ≡ true → fit rest ≡ true) → (v : A) (vs : List A) (t : Tokens) (ts : List Tokens) (s : Span) (ss : List Span) → AllRead test_item fit item (v ∷ vs) (t ∷ ts) (s ∷ ss) → Reads (ending test fit) (λ n. separated n test (item n)) (v ∷ vs) (t ++ flat_map (λ own. (sep ∷ []) ++ own) ts) (s >> all_spans (map (λ own. token >> own) ss))
separated-Reads {A} sep test test_item fit item turn follows v vs t ts s ss all =
    let behind = separated-all sep test test_item fit item turn vs ts ss all.2 in
    let more = many-Reads test fit (λ n. pair skip (item n)) follows _ _ _ behind in
    let both = made-Reads (λ (got : A × List (Unit {0} × A)). got.0 ∷ map (λ w. w.1) got.1) (pair-Reads all.0 more (fit_behind test fit (λ n. pair skip (item n)) follows _ _ _ behind)) in
    let span = s >> all_spans (map (λ own. token >> own) ss) in
    let P : Tokens → List A → Type 0 = λ toks vals. Reads (ending test fit) (λ n. separated n test (item n)) (v ∷ vals) (t ++ toks) span in
    subst (λ (toks : Tokens). P toks vs) (flat_map-joined (λ own. (sep ∷ []) ++ own) ts)
    (subst (λ (vals : List A). P (joined (map (λ own. (sep ∷ []) ++ own) ts)) vals) (behind-all vs) both)

pub nothing-Reads : {A : Type 0} → Reads any (λ n. nothing {A = A}) [] [] Some
nothing-Reads {A} = record { least = 0; gets = λ fuel at end rest enough is fits. ap (λ n. Some ([], n, rest)) (some_one at end is) }
