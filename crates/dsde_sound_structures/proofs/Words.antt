-- Tokens whose identifiers are words: their parts, and the words of what they spell.
use Rattle.std.proofs.Common.{◌≡◌, Bool, true, false, ◌&&◌, ◌||◌, List, [], ◌∷◌, ◌++◌, Option, Some, None, refl, sym, ap, subst, ◌∙◌, true≢false}
use Rattle.std.specs.Prelude.{All, flat_map}
use Rattle.std.specs.List.{list_all, join_by}
use Rattle.std.proofs.lemmas.List.Folds.{list_all-append}
use Rattle.std.proofs.lemmas.List.Elements.{All-head, All-tail}
use Rattle.dsde_words.specs.Words.{is_word}
use Rattle.dsde_sim_tree.specs.given.syntax.id_Id.{Id}
use Rattle.dsde_sim_tree.specs.given.syntax.token_Tok.{Tok}
use Rattle.dsde_sim_tree.specs.given.syntax.token_Tok_TheVariants as tok
use Rattle.dsde_sim_tree.specs.given.syntax.token_Sign_TheVariants as sign
use Rattle.dsde_sim_tree.specs.given.syntax.type_name_TypeName.{TypeName}
use Rattle.dsde_sim_tree.specs.given.syntax.type_name_TypeName_TheOpen.{TypeName-F}
use Rattle.dsde_sim_tree.specs.given.syntax.type_name_TypeName_TheViews.{roll-TypeName}
use Rattle.dsde_sim_tree.specs.given.syntax.type_name_TypeName_TheFolds.{map-TypeName, fold-roll-TypeName, ind-TypeName}
use Rattle.dsde_sim_tree.specs.given.syntax.Spelling.{IsToken}
use Rattle.dsde_sim_tree.specs.given.syntax.Grammar.{Tokens, mark, in_angles, type_step, type_tokens}
use Rattle.dsde_sim_tree.specs.given.language.RuleTables.{used_step, used_in}

-- a token that is no identifier, or one that is a word
abbrev pub is_word_tok : Tok → Bool
is_word_tok (tok.Key word) = true
is_word_tok (tok.Sign mark) = true
is_word_tok (tok.Ident name) = is_word name
is_word_tok (tok.Int value) = true

abbrev pub worded : Tokens → Bool
worded = list_all is_word_tok

-- both sides of a conjunction
pub record Both (a b : Bool) : Type 0 where
  pub left : a ≡ true
  pub right : b ≡ true

pub both : (a b : Bool) → (a && b) ≡ true → Both a b
both true b is = record { left = refl; right = is }
both false b is = cc

pub and-true : (a b : Bool) → a ≡ true → b ≡ true → (a && b) ≡ true
and-true true b left right = right
and-true false b left right = cc

-- neither side of a disjunction
pub or-parts : (b c : Bool) → (b || c) ≡ false → (b ≡ false) × (c ≡ false)
or-parts true c none = absurd (true≢false none)
or-parts false c none = (refl, none)

-- tokens in front of tokens
pub cut : (front behind : Tokens) → worded (front ++ behind) ≡ true → Both (worded front) (worded behind)
cut front behind is = both (worded front) (worded behind) (sym (list_all-append is_word_tok front behind) ∙ is)

pub front-worded : (front behind : Tokens) → worded (front ++ behind) ≡ true → worded front ≡ true
front-worded front behind is = (cut front behind is).left

-- parts, each behind something
pub flat-worded : (sep : Tokens) (parts : List Tokens) → worded (flat_map (λ part. sep ++ part) parts) ≡ true → list_all worded parts ≡ true
flat-worded sep [] is = refl
flat-worded sep (part ∷ parts) is =
    let own = cut (sep ++ part) (flat_map (λ part. sep ++ part) parts) is in
    and-true (worded part) (list_all worded parts) (cut sep part own.left).right (flat-worded sep parts own.right)

-- parts with something between them
pub join-worded : (sep : Tokens) (parts : List Tokens) → worded (join_by (λ part. part) sep parts) ≡ true → list_all worded parts ≡ true
join-worded sep [] is = refl
join-worded sep (part ∷ parts) is =
    let own = cut part (flat_map (λ part. sep ++ part) parts) is in
    and-true (worded part) (list_all worded parts) own.left (flat-worded sep parts own.right)

-- the tokens of a text
tok-worded : (own : Tok) → IsToken own → is_word_tok own ≡ true
tok-worded (tok.Key word) is = refl
tok-worded (tok.Sign mark) is = refl
tok-worded (tok.Ident name) is = is.word
tok-worded (tok.Int value) is = refl

pub tokens-worded : (tokens : Tokens) → All IsToken tokens → worded tokens ≡ true
tokens-worded [] all = refl
tokens-worded (own ∷ tokens) all =
    and-true (is_word_tok own) (worded tokens) (tok-worded own (All-head IsToken own tokens all)) (tokens-worded tokens (All-tail IsToken own tokens all))

-- the identifier in a type, if there is one, is a word
abbrev pub is_word_used : Option Id → Bool
is_word_used None = true
is_word_used (Some id) = is_word id.name

pub record UsedWorded (own : TypeName) : Type 0 where
  pub holds : worded (type_tokens own) ≡ true → is_word_used (used_in own) ≡ true

used-roll : (x : TypeName-F TypeName)
    → (worded (type_step (map-TypeName TypeName Tokens type_tokens x)) ≡ true → is_word_used (used_step (map-TypeName TypeName (Option Id) used_in x)) ≡ true)
    → UsedWorded (roll-TypeName x)
used-roll x own = record {
  holds = λ is.
      ap is_word_used (fold-roll-TypeName (Option Id) used_step x)
      ∙ own (ap worded (sym (fold-roll-TypeName Tokens type_step x)) ∙ is);
}

angles-worded : (part : Tokens) → worded (in_angles part) ≡ true → worded part ≡ true
angles-worded part is = front-worded part (mark sign.Greater) is

abbrev Each : Type 0
Each = (own : TypeName) × UsedWorded own

used-case : (y : TypeName-F Each) → UsedWorded (roll-TypeName (map-TypeName Each TypeName (λ e. e.0) y))
used-case (TypeName-F.Int at) = used-roll (TypeName-F.Int at) (λ is. refl)
used-case (TypeName-F.Bool at) = used-roll (TypeName-F.Bool at) (λ is. refl)
used-case (TypeName-F.Named id) = used-roll (TypeName-F.Named id) (λ is. (both (is_word id.name) true is).left)
used-case (TypeName-F.List at (part, own)) = used-roll (TypeName-F.List at part) (λ is. own.holds (angles-worded (type_tokens part) is))
used-case (TypeName-F.Opt at (part, own)) = used-roll (TypeName-F.Opt at part) (λ is. own.holds (angles-worded (type_tokens part) is))

pub used-worded : (own : TypeName) → UsedWorded own
used-worded = ind-TypeName UsedWorded (λ x y is. subst (λ (z : TypeName-F TypeName). UsedWorded (roll-TypeName z)) is (used-case y))
