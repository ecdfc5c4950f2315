-- What is open behind one token more.
use Rattle.std.proofs.Common.{◌≡◌, ℕ, ◌+◌, ◌<◌, ◌≤◌, zero, suc, List, [], ◌∷◌, ◌++◌, length, map, take, get_or, sym, ap, subst, ◌∙◌, arith, below_more}
use Rattle.std.proofs.lemmas.List.{length-map, take-map, map_more}
use Rattle.std.specs.List.{fold}
use Rattle.std.proofs.lemmas.List.Sums.{fold_push}
use Rattle.dsde_syntax.specs.declared.token.Token.{Token}
use Rattle.dsde_syntax.specs.declared.token.Tok.{Tok}
use Rattle.dsde_syntax.specs.declared.token.Tok.TheVariants as tok
use Rattle.dsde_syntax.specs.declared.token.Sign.{Sign}
use Rattle.dsde_syntax.specs.declared.token.Sign.TheVariants as sign
use Rattle.dsde_syntax.specs.Grammar.{Tokens}
use Rattle.dsde_parser.specs.declared.depth.Open.{Open}
use Rattle.dsde_parser.specs.declared.depth.Last.{Last}
use Rattle.dsde_parser.specs.declared.depth.Last.TheVariants as last
use Rattle.dsde_parser.specs.Depth.{behind_less, behind_greater, brackets_after, opened, none_open, open_after, IsWithin, IsFirstDeep}

abbrev pub toks_of : List Token → Tokens
toks_of = map (λ (token : Token). token.tok)

-- what is open behind one token more
open-more : (tokens : List Token) (i : ℕ) (token : Token) → i < length tokens → token ≡ get_or tokens i token → open_after (take (i + 1) (toks_of tokens)) ≡ opened (open_after (take i (toks_of tokens))) token.tok
unfolding open_after
open-more tokens i token inside is =
    let pushed : take (i + 1) (toks_of tokens) ≡ take i (toks_of tokens) ++ token.tok ∷ [] =
    take-map (λ (own : Token). own.tok) (i + 1) tokens
    ∙ (map_more (λ (own : Token). own.tok) tokens i token inside
    ∙ (ap (λ (own : Tokens). own ++ (get_or tokens i token).tok ∷ []) (sym (take-map (λ (own : Token). own.tok) i tokens))
    ∙ ap (λ (own : Token). take i (toks_of tokens) ++ own.tok ∷ []) (sym is))) in
    ap (fold opened none_open) pushed ∙ fold_push opened none_open (take i (toks_of tokens)) token.tok

-- one token opens at most one bracket of a type
angles-less : (before : Open) (last : Last) → (behind_less before last).1 ≤ before.angles + 1
angles-less before last.TypeWord = omega arith
angles-less before _ = omega arith

angles-greater : (brackets : List ℕ) (angles : ℕ) → (behind_greater brackets angles).1 ≤ angles + 1
angles-greater brackets zero = omega arith
angles-greater brackets (suc angles) = omega arith

angles-sign : (before : Open) (which : Sign) → (brackets_after before which).1 ≤ before.angles + 1
angles-sign before sign.Less = angles-less before before.last
angles-sign before sign.Greater = angles-greater before.brackets before.angles
angles-sign before _ = omega arith

angles-more : (before : Open) (t : Tok) → (opened before t).angles ≤ before.angles + 1
angles-more before (tok.Sign which) = angles-sign before which
angles-more before _ = omega arith

-- what the search keeps: what is open behind the tokens so far, and that at no place so far more is
-- open than may be
pub record IsSoFar (tokens : List Token) (i : ℕ) (now : Open) : Type 0 where
  pub is : now ≡ open_after (take i (toks_of tokens))
  pub angles : now.angles ≤ i
  pub shallow : (n : ℕ) → n ≤ i → IsWithin (open_after (take n (toks_of tokens)))

pub so-far-none : (tokens : List Token) (now : Open) → now ≡ none_open → IsSoFar tokens 0 now
unfolding open_after
so-far-none tokens now is = record {
  is = is;
  angles = let none : now.angles ≡ 0 = ap (λ (own : Open). own.angles) is in omega arith;
  shallow = λ n h. let none : n ≡ 0 = omega arith in rw none (omega arith, omega arith);
}

-- the next token, behind which this is open
open-next : (tokens : List Token) (i : ℕ) (before next : Open) (token : Token) → i < length tokens → token ≡ get_or tokens i token → IsSoFar tokens i before → next ≡ opened before token.tok → next ≡ open_after (take (i + 1) (toks_of tokens))
open-next tokens i before next token inside is so_far comes =
    comes ∙ (ap (λ (own : Open). opened own token.tok) so_far.is ∙ sym (open-more tokens i token inside is))

pub so-far-more : (tokens : List Token) (i : ℕ) (before next : Open) (token : Token) → i < length tokens → token ≡ get_or tokens i token → IsSoFar tokens i before → next ≡ opened before token.tok → IsWithin next → IsSoFar tokens (i + 1) next
so-far-more tokens i before next token inside is so_far comes few =
    let after = open-next tokens i before next token inside is so_far comes in
    let same : next.angles ≡ (opened before token.tok).angles = ap (λ (own : Open). own.angles) comes in
    let P : ℕ → Type 0 = λ n. IsWithin (open_after (take n (toks_of tokens))) in
    let here : P (i + 1) = subst IsWithin after few in
    let below : (n : ℕ) → n < i + 1 → P n = λ n h. so_far.shallow n (omega arith) in
    record {
      is = after;
      angles = omega (arith, angles-more before token.tok, same, so_far.angles);
      shallow = λ n h. below_more P (i + 1) below here n (omega arith);
    }

pub so-far-deep : (tokens : List Token) (i : ℕ) (before next : Open) (token : Token) → i < length tokens → token ≡ get_or tokens i token → IsSoFar tokens i before → next ≡ opened before token.tok → ¬ (IsWithin next) → IsFirstDeep (toks_of tokens) i
so-far-deep tokens i before next token inside is so_far comes many = record {
  within = omega (arith, length-map tokens (λ (own : Token). own.tok));
  deep = subst (λ (own : Open). ¬ (IsWithin own)) (open-next tokens i before next token inside is so_far comes) many;
  before = so_far.shallow;
}
