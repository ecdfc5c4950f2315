-- Tokens have one offence, and none where they give a model in which nothing is wrong.
use Rattle.std.proofs.Common.{◌≡◌, ℕ, ◌+◌, ◌-◌, ◌≤◌, ◌<◌, ◌++◌, ◌⊎◌, inl, inr, take, drop, Option, Some, None, refl, sym, ap, subst, ◌∙◌, append_assoc, arith}
use Rattle.std.specs.Prelude.{All}
use Rattle.std.proofs.Math.Seq.{take-add}
use Rattle.std.proofs.lemmas.Bool.{cases_order}
use Rattle.dsde_syntax.specs.declared.decl.Model.{Model}
use Rattle.dsde_syntax.specs.Spelling.{IsToken}
use Rattle.dsde_syntax.specs.Grammar.{Tokens, tokens_of}
use Rattle.dsde_syntax.specs.Shape.{IsShaped}
use Rattle.dsde_parser_grammar.specs.Begins.{IsGrammatical, BeginsOne, IsFirstWrong}
use Rattle.dsde_parser_expressions.specs.declared.parser.ParseError.TheVariants as parse_error
use Rattle.dsde_parser.specs.Depth.{IsFirstDeep}
use Rattle.dsde_parser.specs.Refusal.{IsRefused}
use Rattle.dsde_language.specs.declared.wrong.Wrong.{Wrong}
use Rattle.dsde_language.specs.declared.wrong.WrongKind.{WrongKind}
use Rattle.dsde_language.specs.Rules.{first_wrong}
use Rattle.dsde_cli_verdict.specs.declared.refusal.Refusal.{Refusal}
use Rattle.dsde_cli_verdict.specs.declared.refusal.Refusal.TheVariants as refusal
use Rattle.dsde_cli_verdict.specs.Verdict.{Gives, IsSound, IsWrong, Offends}

-- at most one shaped model has given tokens
abbrev pub OneModel : Type 0
OneModel = (first other : Model) → IsShaped first → IsShaped other → tokens_of first ≡ tokens_of other → first ≡ other

pub one_given : OneModel → (toks : Tokens) (first other : Model) → Gives toks first → Gives toks other → first ≡ other
one_given one toks first other this that = one first other this.shaped that.shaped (this.written ∙ sym that.written)

-- the tokens of a model are grammatical
grammatical : (toks : Tokens) (model : Model) → Gives toks model → IsGrammatical toks
grammatical toks model gives = record {
  model = model;
  spells = gives.written;
  levels = gives.shaped.levels;
  lawful = subst (All IsToken) gives.written gives.shaped.tokens;
}

-- what begins a list of the grammar begins one with fewer of its tokens too
begins_less : (toks : Tokens) (fewer many : ℕ) → fewer ≤ many → BeginsOne (take many toks) → BeginsOne (take fewer toks)
begins_less toks fewer many less begins =
    let rest = take (many - fewer) (drop fewer toks) in
    let all : fewer + (many - fewer) ≡ many = omega arith in
    let split : take many toks ≡ take fewer toks ++ rest = ap (λ count. take count toks) (sym all) ∙ take-add fewer (many - fewer) toks in
    record {
      more = rest ++ begins.more;
      whole = subst IsGrammatical (ap (λ front. front ++ begins.more) split ∙ append_assoc (take fewer toks) rest begins.more) begins.whole;
    }

-- the first wrong thing is not before another
pub not_before : (toks : Tokens) (this that : ℕ) → IsFirstWrong toks this → IsFirstWrong toks that → this < that → ⊥
not_before toks this that first other less =
    let within = other.within in
    first.through (omega arith) (begins_less toks (this + 1) that (omega arith) other.before)

-- the first that is too deep is not before another
not_deeper : (toks : Tokens) (this that : ℕ) → IsFirstDeep toks this → IsFirstDeep toks that → this < that → ⊥
not_deeper toks this that first other less = first.deep (other.before (this + 1) (omega arith))

-- two places are the same where neither is before the other
same_place : (this that : ℕ) → (this < that → ⊥) → (that < this → ⊥) → (this ≡ that) ⊎ ((this < that) ⊎ (that < this)) → this ≡ that
same_place this that not_less not_more (inl same) = same
same_place this that not_less not_more (inr (inl less)) = absurd (not_less less)
same_place this that not_less not_more (inr (inr more)) = absurd (not_more more)

one_wrong : (toks : Tokens) (this that : ℕ) → IsFirstWrong toks this → IsFirstWrong toks that → this ≡ that
one_wrong toks this that first other =
    same_place this that (not_before toks this that first other) (not_before toks that this other first) (cases_order this that)

one_deep : (toks : Tokens) (this that : ℕ) → IsFirstDeep toks this → IsFirstDeep toks that → this ≡ that
one_deep toks this that first other =
    same_place this that (not_deeper toks this that first other) (not_deeper toks that this other first) (cases_order this that)

-- one of two offences of the parser is first
not_both : (toks : Tokens) (wrong deep : ℕ) → IsRefused toks (parse_error.Syntax wrong) → IsRefused toks (parse_error.Nested deep) → ⊥
not_both toks wrong deep syntax nested = by_order (cases_order wrong deep)
  where
    by_order : (wrong ≡ deep) ⊎ ((wrong < deep) ⊎ (deep < wrong)) → ⊥
    by_order (inl same) = nested.1 wrong (omega arith) syntax.0
    by_order (inr (inl less)) = nested.1 wrong (omega arith) syntax.0
    by_order (inr (inr more)) = nested.0.deep (syntax.1 (deep + 1) (omega arith))

-- tokens that give a model are not refused by the parser
not_syntax : (toks : Tokens) (model : Model) (at : ℕ) → Gives toks model → IsRefused toks (parse_error.Syntax at) → ⊥
not_syntax toks model at gives syntax = syntax.0.whole (grammatical toks model gives)

not_nested : (toks : Tokens) (model : Model) (at : ℕ) → Gives toks model → IsRefused toks (parse_error.Nested at) → ⊥
not_nested toks model at gives nested = nested.0.deep (gives.shallow (at + 1))

same_some : (this that : Wrong) → Some this ≡ Some that → this ≡ that
same_some this that same = cc same

-- a wrong thing is one thing, at one place
same_thing : (this that : WrongKind) (here there : ℕ) → ◌≡◌ {A = Option Wrong} (Some (record { kind = this; at = here })) (Some (record { kind = that; at = there })) → (this ≡ that) × (here ≡ there)
same_thing this that here there same =
    let both = same_some (record { kind = this; at = here }) (record { kind = that; at = there }) same in
    (ap (λ (wrong : Wrong). wrong.kind) both, ap (λ (wrong : Wrong). wrong.at) both)

-- something is wrong, or nothing is
not_none : (wrong : Wrong) → None ≡ Some wrong → ⊥
not_none wrong same = cc same

-- a model has one first wrong thing
one_first : OneModel → (toks : Tokens) (this that : WrongKind) (here there : ℕ) → IsWrong this toks here → IsWrong that toks there → (this ≡ that) × (here ≡ there)
one_first one toks this that here there first other =
    let same = one_given one toks first.model other.model first.gives other.gives in
    same_thing this that here there (sym first.first ∙ ap first_wrong same ∙ other.first)

-- nothing is wrong in a model that tokens give, or something is
not_wrong : OneModel → (toks : Tokens) (model : Model) (kind : WrongKind) (at : ℕ) → IsSound toks model → IsWrong kind toks at → ⊥
not_wrong one toks model kind at sound wrong =
    let same = one_given one toks model wrong.model sound.gives wrong.gives in
    not_none (record { kind = kind; at = at }) (sym sound.sound ∙ ap first_wrong same ∙ wrong.first)

-- Tokens that give a model in which nothing is wrong have no offence.
pub no_offence : OneModel → (toks : Tokens) (model : Model) (kind : Refusal) (at : ℕ) → IsSound toks model → Offends kind toks at → ⊥
no_offence one toks model refusal.Syntax at sound offence = not_syntax toks model at sound.gives offence
no_offence one toks model refusal.Nested at sound offence = not_nested toks model at sound.gives offence
no_offence one toks model (refusal.Check kind) at sound offence = not_wrong one toks model kind at sound offence
no_offence one toks model refusal.BadByte at sound offence = absurd offence
no_offence one toks model refusal.BadNumber at sound offence = absurd offence

-- Tokens have one offence, at one place.
pub one_offence : OneModel → (toks : Tokens) (this that : Refusal) (here there : ℕ) → Offends this toks here → Offends that toks there → (this ≡ that) × (here ≡ there)
one_offence one toks refusal.BadByte that here there first other = absurd first
one_offence one toks refusal.BadNumber that here there first other = absurd first
one_offence one toks refusal.Syntax refusal.Syntax here there first other = (refl, one_wrong toks here there first.0 other.0)
one_offence one toks refusal.Syntax refusal.Nested here there first other = absurd (not_both toks here there first other)
one_offence one toks refusal.Syntax (refusal.Check kind) here there first other = absurd (not_syntax toks other.model here other.gives first)
one_offence one toks refusal.Syntax refusal.BadByte here there first other = absurd other
one_offence one toks refusal.Syntax refusal.BadNumber here there first other = absurd other
one_offence one toks refusal.Nested refusal.Syntax here there first other = absurd (not_both toks there here other first)
one_offence one toks refusal.Nested refusal.Nested here there first other = (refl, one_deep toks here there first.0 other.0)
one_offence one toks refusal.Nested (refusal.Check kind) here there first other = absurd (not_nested toks other.model here other.gives first)
one_offence one toks refusal.Nested refusal.BadByte here there first other = absurd other
one_offence one toks refusal.Nested refusal.BadNumber here there first other = absurd other
one_offence one toks (refusal.Check kind) refusal.Syntax here there first other = absurd (not_syntax toks first.model there first.gives other)
one_offence one toks (refusal.Check kind) refusal.Nested here there first other = absurd (not_nested toks first.model there first.gives other)
one_offence one toks (refusal.Check kind) (refusal.Check other_kind) here there first other = let same = one_first one toks kind other_kind here there first other in (ap refusal.Check same.0, same.1)
one_offence one toks (refusal.Check kind) refusal.BadByte here there first other = absurd other
one_offence one toks (refusal.Check kind) refusal.BadNumber here there first other = absurd other
