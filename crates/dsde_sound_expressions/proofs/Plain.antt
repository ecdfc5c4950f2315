-- Tokens that no name and no number of a text can break: their parts, and what they grant.
use Rattle.std.proofs.Common.{◌≡◌, ℕ, Bool, true, false, ◌&&◌, List, [], ◌∷◌, ◌++◌, map, refl, sym, ap, is_some, ◌∙◌, arith}
use Rattle.std.specs.Prelude.{◌≤◌, ◌^◌, nat_lt, nat_le, not, All, flat_map}
use Rattle.std.specs.List.{list_all, join_by}
use Rattle.std.proofs.lemmas.List.Folds.{list_all-append}
use Rattle.std.proofs.lemmas.List.Elements.{All-head, All-tail}
use Rattle.std.proofs.lemmas.Bool.Decides.{nat_tests}
use Rattle.dsde_language.specs.given.words.Words.{IsIdentifier, is_reserved}
use Rattle.dsde_language.specs.given.syntax.token_Tok.{Tok}
use Rattle.dsde_language.specs.given.syntax.token_Tok_TheVariants as tok
use Rattle.dsde_language.specs.given.syntax.Spelling.{IsToken, IsNumber}
use Rattle.dsde_language.specs.given.syntax.Grammar.{Tokens}
use Rattle.dsde_language.specs.given.syntax.Levels.{stands_at, level_if}

-- a token that is no name `elapsed` and no number of more than 63 bits
abbrev pub is_plain_tok : Tok → Bool
is_plain_tok (tok.Key word) = true
is_plain_tok (tok.Sign mark) = true
is_plain_tok (tok.Ident name) = not (is_reserved name)
is_plain_tok (tok.Int value) = nat_lt value (2 ^ 63)

abbrev pub plain : Tokens → Bool
plain = list_all is_plain_tok

-- both sides of a conjunction
pub record Both (a b : Bool) : Type 0 where
  pub left : a ≡ true
  pub right : b ≡ true

pub both : (a b : Bool) → (a && b) ≡ true → Both a b
both true b is = record { left = refl; right = is }
both false b is = cc

pub and-true : (a b : Bool) → a ≡ true → b ≡ true → (a && b) ≡ true
and-true true b left right = right
and-true false b left right = cc

-- tokens in front of tokens
pub cut : (front behind : Tokens) → plain (front ++ behind) ≡ true → Both (plain front) (plain behind)
cut front behind is = both (plain front) (plain behind) (sym (list_all-append is_plain_tok front behind) ∙ is)

pub front-plain : (front behind : Tokens) → plain (front ++ behind) ≡ true → plain front ≡ true
front-plain front behind is = (cut front behind is).left

pub behind-plain : (front behind : Tokens) → plain (front ++ behind) ≡ true → plain behind ≡ true
behind-plain front behind is = (cut front behind is).right

-- parts, each behind something
pub flat-plain : (sep : Tokens) (parts : List Tokens) → plain (flat_map (λ part. sep ++ part) parts) ≡ true → list_all plain parts ≡ true
flat-plain sep [] is = refl
flat-plain sep (part ∷ parts) is =
    let own = cut (sep ++ part) (flat_map (λ part. sep ++ part) parts) is in
    and-true (plain part) (list_all plain parts) (behind-plain sep part own.left) (flat-plain sep parts own.right)

-- parts with something between them
pub join-plain : (sep : Tokens) (parts : List Tokens) → plain (join_by (λ part. part) sep parts) ≡ true → list_all plain parts ≡ true
join-plain sep [] is = refl
join-plain sep (part ∷ parts) is =
    let own = cut part (flat_map (λ part. sep ++ part) parts) is in
    and-true (plain part) (list_all plain parts) own.left (flat-plain sep parts own.right)

-- a node that stands somewhere has its parts where they may stand
pub level-is : (b : Bool) (own : ℕ) → stands_at 9 (level_if b own) ≡ true → b ≡ true
level-is true own is = refl
level-is false own is = cc

-- what may stand at a level is an expression
pub stands : (place : ℕ) → place ≤ 9 → (level : ℕ) → stands_at place level ≡ true → stands_at 9 level ≡ true
stands place less level is = more place less level is
  where
    more : (place : ℕ) → place ≤ 9 → (level : ℕ) → nat_le level place ≡ true → nat_le level 9 ≡ true
    more place less level is = grind (arith, nat_tests)

-- what is of the grammar, with plain tokens, has a property
pub record Holds (good : Bool) (tokens : Tokens) (own : Bool) : Type 0 where
  pub holds : good ≡ true → plain tokens ≡ true → own ≡ true

-- and so do lists of such parts
pub record AllHold {A Q : Type 0} (ok : A → Bool) (so : Q → Bool) (goods : List A) (parts : List Tokens) (owns : List Q) : Type 0 where
  pub holds : list_all ok goods ≡ true → list_all plain parts ≡ true → list_all so owns ≡ true

module _ {Y X A Q : Type 0} (f : Y → X) (T : X → Tokens) (B : X → A) (P : X → Q) (ok : A → Bool) (so : Q → Bool) (each : (y : Y) → Holds (ok (B (f y))) (T (f y)) (so (P (f y)))) where
  own-hold : (ys : List Y) → list_all ok (map B (map f ys)) ≡ true → list_all plain (map T (map f ys)) ≡ true → list_all so (map P (map f ys)) ≡ true
  own-hold [] goods plains = refl
  own-hold (y ∷ ys) goods plains =
      let good = both (ok (B (f y))) (list_all ok (map B (map f ys))) goods in
      let part = both (plain (T (f y))) (list_all plain (map T (map f ys))) plains in
      and-true (so (P (f y))) (list_all so (map P (map f ys))) ((each y).holds good.left part.left) (own-hold ys good.right part.right)

  pub all-hold : (ys : List Y) → AllHold ok so (map B (map f ys)) (map T (map f ys)) (map P (map f ys))
  all-hold ys = record { holds = own-hold ys }

-- no identifier is a word of the language
name-plain : (name : List ℕ) → IsIdentifier name → not (is_reserved name) ≡ true
name-plain name own = ap (λ found. not (is_some found)) own.free

number-plain : (value : ℕ) → IsNumber value → nat_lt value (2 ^ 63) ≡ true
number-plain value own = grind (arith, nat_tests)

tok-plain : (own : Tok) → IsToken own → is_plain_tok own ≡ true
tok-plain (tok.Key word) is = refl
tok-plain (tok.Sign mark) is = refl
tok-plain (tok.Ident name) is = name-plain name is
tok-plain (tok.Int value) is = number-plain value is

-- the tokens of a text are plain
pub tokens-plain : (tokens : Tokens) → All IsToken tokens → plain tokens ≡ true
tokens-plain [] all = refl
tokens-plain (own ∷ tokens) all =
    and-true (is_plain_tok own) (plain tokens) (tok-plain own (All-head IsToken own tokens all)) (tokens-plain tokens (All-tail IsToken own tokens all))
