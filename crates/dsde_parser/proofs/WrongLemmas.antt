-- Where the first wrong token of some tokens stands, from that of a part of them, and from where the
-- steps of the grammar stop.
use Rattle.std.proofs.Common.{◌≡◌, ℕ, ◌+◌, ◌≤◌, [], ◌++◌, length, take, drop, sym, ap, subst, ◌∙◌, arith, append_assoc, append-nil}
use Rattle.std.proofs.lemmas.List.{take-append-drop, take-append-le, length-take-le}
use Rattle.dsde_syntax.specs.Grammar.{Tokens}
use Rattle.dsde_parser_grammar.specs.Begins.{IsGrammatical, BeginsOne, IsFirstWrong}

pub take-take : (n m : ℕ) (tokens : Tokens) → n ≤ m → m ≤ length tokens → take n (take m tokens) ≡ take n tokens
take-take n m tokens le within =
    let long : n ≤ length (take m tokens) = rw (length-take-le m tokens within) le in
    sym (take-append-le n (take m tokens) (drop m tokens) long) ∙ ap (λ (own : Tokens). take n own) (take-append-drop m tokens)

-- what begins a model, cut, begins one
pub begins-shorter : (n : ℕ) (tokens : Tokens) → BeginsOne tokens → BeginsOne (take n tokens)
begins-shorter n tokens begun = record {
  more = drop n tokens ++ begun.more;
  whole = subst IsGrammatical (same begun.more) begun.whole;
}
  where
    same : (more : Tokens) → tokens ++ more ≡ take n tokens ++ (drop n tokens ++ more)
    same more = ap (λ (own : Tokens). own ++ more) (sym (take-append-drop n tokens)) ∙ append_assoc (take n tokens) (drop n tokens) more

-- a model begins with all its tokens
pub begins-whole : (tokens : Tokens) → IsGrammatical tokens → BeginsOne tokens
begins-whole tokens whole = record { more = []; whole = subst IsGrammatical (sym (append-nil tokens)) whole }

-- what is first wrong in the first n tokens is so in all of them, if it is no matter of their end
pub wrong-longer : (n : ℕ) (tokens : Tokens) (at : ℕ) → at + 1 ≤ n → n ≤ length tokens → IsFirstWrong (take n tokens) at → IsFirstWrong tokens at
wrong-longer n tokens at early within wrong =
    let cut : take (at + 1) (take n tokens) ≡ take (at + 1) tokens = take-take (at + 1) n tokens early within in
    let less : at ≤ n = omega arith in
    let short : take at (take n tokens) ≡ take at tokens = take-take at n tokens less within in
    let none : BeginsOne (take (at + 1) tokens) → ⊥ =
    λ begun. wrong.through (rw (length-take-le n tokens within) early) (subst BeginsOne (sym cut) begun) in
    record {
      within = omega arith;
      before = subst BeginsOne short wrong.before;
      through = λ more begun. none begun;
      whole = λ whole. none (begins-shorter (at + 1) tokens (begins-whole tokens whole));
    }

-- before the end of tokens that begin a model nothing is wrong
pub not-wrong-before : (n : ℕ) (tokens : Tokens) → n ≤ length tokens → BeginsOne (take n tokens) → (at : ℕ) → at + 1 ≤ n → ¬ (IsFirstWrong tokens at)
not-wrong-before n tokens within begun at early wrong =
    let more : at + 1 ≤ length tokens = omega arith in
    wrong.through more (subst BeginsOne (take-take (at + 1) n tokens early within) (begins-shorter (at + 1) (take n tokens) begun))
