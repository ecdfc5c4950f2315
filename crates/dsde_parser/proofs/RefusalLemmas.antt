-- Why tokens give no model, by where the steps of the grammar stop.
use Rattle.std.proofs.Common.{◌≡◌, ℕ, ◌+◌, ◌<◌, ◌≤◌, List, length, take, Some, Result, Ok, Err, sym, ap, subst, ◌∙◌, arith}
use Rattle.std.specs.Prelude.{All, IfErr}
use Rattle.std.proofs.lemmas.List.{length-take-le, take-map}
use Rattle.std.proofs.lemmas.List.Elements.{All-take}
use Rattle.dsde_syntax.specs.declared.token.Token.{Token}
use Rattle.dsde_syntax.specs.declared.decl.Model.{Model}
use Rattle.dsde_syntax.specs.Spelling.{IsToken, HasToken}
use Rattle.dsde_syntax.specs.Grammar.{Tokens, tokens_of}
use Rattle.dsde_syntax.specs.Shape.{IsShaped}
use Rattle.dsde_parser_grammar.specs.Begins.{IsGrammatical, BeginsOne, IsFirstWrong}
use Rattle.dsde_parser_grammar.specs.Steps.{start, stop}
use Rattle.dsde_parser_expressions.specs.declared.parser.ParseError.{ParseError}
use Rattle.dsde_parser_expressions.specs.declared.parser.ParseError.TheVariants as parse_error
use Rattle.dsde_parser.specs.Depth.{IsShallow, IsFirstDeep}
use Rattle.dsde_parser_expressions.specs.Follows.{StopsBy}
use Rattle.dsde_parser.specs.Refusal.{IsRefused}
use Rattle.dsde_parser.proofs.WholeLemmas.{toks_of, all-toks}
use Rattle.dsde_parser.proofs.WrongLemmas.{take-take, begins-whole, wrong-longer, not-wrong-before}

-- where the steps stop is the first thing that is wrong
abbrev pub StopsAreWrong : Type 0
StopsAreWrong = (tokens : Tokens) (at : ℕ) → All IsToken tokens → stop start 0 tokens ≡ Some at → IsFirstWrong tokens at

-- a model that was read is one of the grammar
grammatical : (model : Model) (tokens : Tokens) → IsShaped model → tokens_of model ≡ tokens → IsGrammatical tokens
grammatical model tokens shaped spells = record {
  model = model;
  spells = spells;
  levels = shaped.levels;
  lawful = subst (λ (own : Tokens). All IsToken own) spells shaped.tokens;
}

-- tokens that nowhere stand too deep
pub shallow-refused : (result : Result Model ParseError) (tokens : List Token) → StopsAreWrong → All HasToken tokens → IsShallow (toks_of tokens) → IfErr result (λ error. StopsBy error (stop start 0 (toks_of tokens))) → IfErr result (IsRefused (toks_of tokens))
shallow-refused (Ok model) tokens law all shallow stopped = tt
shallow-refused (Err (parse_error.Syntax at)) tokens law all shallow stopped =
    (law (toks_of tokens) at (all-toks tokens all) stopped, λ n less. shallow n)
shallow-refused (Err (parse_error.Nested at)) tokens law all shallow stopped = absurd stopped
shallow-refused (Err parse_error.Memory) tokens law all shallow stopped = tt

-- tokens cut behind the first that stands too deep: what is wrong stands before it
pub wrong-refused : (tokens : Tokens) (deep at : ℕ) → StopsAreWrong → All IsToken tokens → IsFirstDeep tokens deep → at ≤ deep → stop start 0 (take (deep + 1) tokens) ≡ Some at → IsRefused tokens (parse_error.Syntax at)
wrong-refused tokens deep at law all first less stops =
    let within : deep < length tokens = first.within in (
      wrong-longer (deep + 1) tokens at (omega arith) (omega arith) (law (take (deep + 1) tokens) at (All-take IsToken (deep + 1) tokens all) stops),
      λ n below. first.before n (omega arith),
    )

-- nothing is wrong there or before
pub deep-refused : (tokens : Tokens) (deep : ℕ) → IsFirstDeep tokens deep → BeginsOne (take (deep + 1) tokens) → IsRefused tokens (parse_error.Nested deep)
deep-refused tokens deep first begun =
    let within : deep < length tokens = first.within in
    (first, λ wrong less. not-wrong-before (deep + 1) tokens (omega arith) begun wrong (omega arith))

-- what is wrong stands behind it
pub begun-before : (tokens : Tokens) (deep at : ℕ) → StopsAreWrong → All IsToken tokens → deep < length tokens → deep < at → stop start 0 (take (deep + 1) tokens) ≡ Some at → BeginsOne (take (deep + 1) tokens)
begun-before tokens deep at law all within less stops =
    let wrong = law (take (deep + 1) tokens) at (All-take IsToken (deep + 1) tokens all) stops in
    let long : length (take (deep + 1) tokens) ≡ deep + 1 = length-take-le (deep + 1) tokens (omega arith) in
    let below : at ≤ length (take (deep + 1) tokens) = wrong.within in
    let same : at ≡ deep + 1 = omega arith in
    subst BeginsOne (ap (λ (n : ℕ). take n (take (deep + 1) tokens)) same ∙ take-take (deep + 1) (deep + 1) tokens (omega arith) (omega arith)) wrong.before

-- a model was read of what stands there and before
pub begun-whole : (model : Model) (tokens : Tokens) → IsShaped model → tokens_of model ≡ tokens → BeginsOne tokens
begun-whole model tokens shaped spells = begins-whole tokens (grammatical model tokens shaped spells)

-- the tokens of a slice through an index
cut-toks : (tokens : List Token) (deep : ℕ) → toks_of (take (deep + 1) tokens) ≡ take (deep + 1) (toks_of tokens)
cut-toks tokens deep = sym (take-map (λ (token : Token). token.tok) (deep + 1) tokens)

pub cut-wrong : (tokens : List Token) (deep at : ℕ) → StopsAreWrong → All HasToken tokens → IsFirstDeep (toks_of tokens) deep → at ≤ deep → stop start 0 (toks_of (take (deep + 1) tokens)) ≡ Some at → IsRefused (toks_of tokens) (parse_error.Syntax at)
cut-wrong tokens deep at law all first less stops =
    wrong-refused (toks_of tokens) deep at law (all-toks tokens all) first less (ap (λ (own : Tokens). stop start 0 own) (sym (cut-toks tokens deep)) ∙ stops)

pub cut-deep : (tokens : List Token) (deep : ℕ) → IsFirstDeep (toks_of tokens) deep → BeginsOne (toks_of (take (deep + 1) tokens)) → IsRefused (toks_of tokens) (parse_error.Nested deep)
cut-deep tokens deep first begun = deep-refused (toks_of tokens) deep first (subst BeginsOne (cut-toks tokens deep) begun)

pub cut-begun : (tokens : List Token) (deep at : ℕ) → StopsAreWrong → All HasToken tokens → IsFirstDeep (toks_of tokens) deep → deep < at → stop start 0 (toks_of (take (deep + 1) tokens)) ≡ Some at → BeginsOne (toks_of (take (deep + 1) tokens))
cut-begun tokens deep at law all first less stops =
    subst BeginsOne (sym (cut-toks tokens deep)) (begun-before (toks_of tokens) deep at law (all-toks tokens all) first.within less (ap (λ (own : Tokens). stop start 0 own) (sym (cut-toks tokens deep)) ∙ stops))
