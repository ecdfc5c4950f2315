-- Where the steps stop no model goes on.
use Rattle.std.proofs.Common.{◌≡◌, ℕ, ◌+◌, ◌≤◌, length, take, Option, Some, None, sym, ap, ◌∙◌, arith}
use Rattle.dsde_syntax.specs.Grammar.{Tokens}
use Rattle.std.specs.Prelude.{All}
use Rattle.dsde_syntax.specs.Spelling.{IsToken}
use Rattle.dsde_parser_grammar.specs.Begins.{IsGrammatical, BeginsOne, IsFirstWrong}
use Rattle.dsde_parser_grammar.specs.Steps.{start, stop}
use Rattle.dsde_parser_grammar.proofs.DeclPasses.{model-passes}
use Rattle.dsde_parser_grammar.proofs.Stops.{stop-within, stop-at-first}
use Rattle.dsde_parser_grammar.proofs.Stopping.{came-begins}

none-some : (k : ℕ) (got : Option ℕ) → got ≡ None → got ≡ Some k → ⊥
none-some k got none some = cc

-- at no token of a grammatical list the steps stop
pub grammatical-passes : (tokens : Tokens) → IsGrammatical tokens → stop start 0 tokens ≡ None
grammatical-passes tokens whole = ap (λ (own : Tokens). stop start 0 own) (sym whole.spells) ∙ model-passes whole.model whole.levels

-- a list where the steps stop is not grammatical
pub stopped-whole : (tokens : Tokens) (at : ℕ) → stop start 0 tokens ≡ Some at → ¬ (IsGrammatical tokens)
stopped-whole tokens at h whole = none-some at _ (grammatical-passes tokens whole) h

-- and the tokens through the one where they stop begin no grammatical list
pub stopped-through : (tokens : Tokens) (at : ℕ) → stop start 0 tokens ≡ Some at → at + 1 ≤ length tokens → ¬ (BeginsOne (take (at + 1) tokens))
stopped-through tokens at h less begins =
    none-some at _ (grammatical-passes _ begins.whole) (stop-at-first start tokens at h (omega arith) begins.more)

-- what the steps stop at is the first thing that is wrong
pub first-wrong : (tokens : Tokens) (at : ℕ) → All IsToken tokens → stop start 0 tokens ≡ Some at → IsFirstWrong tokens at
first-wrong tokens at lawful h = record {
  within = omega (arith, (stop-within start 0 tokens at h).1);
  before = came-begins tokens at lawful h;
  through = stopped-through tokens at h;
  whole = stopped-whole tokens at h;
}
