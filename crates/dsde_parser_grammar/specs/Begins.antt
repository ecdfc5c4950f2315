-- Lists of tokens of the grammar, and what begins one.
use Rattle.std.specs.Prelude.{◌≡◌, ◌≤◌, ℕ, ◌+◌, true, ◌++◌, length, take, All}
use Rattle.dsde_syntax.specs.declared.decl.Model.{Model}
use Rattle.dsde_syntax.specs.Spelling.{IsToken}
use Rattle.dsde_syntax.specs.Grammar.{Tokens, tokens_of}
use Rattle.dsde_syntax.specs.Levels.{has_levels}

-- The tokens are those of a model whose nodes stand in their levels, and its names and numbers are
-- identifiers and numbers.
pub record IsGrammatical (tokens : Tokens) : Type 0 where
  pub model : Model
  pub spells : tokens_of model ≡ tokens
  pub levels : has_levels model ≡ true
  pub lawful : All IsToken tokens

-- Some grammatical list begins with these tokens.
pub record BeginsOne (tokens : Tokens) : Type 0 where
  pub more : Tokens
  pub whole : IsGrammatical (tokens ++ more)

-- The first thing that is wrong with the syntax stands at this index: the tokens before it begin a
-- grammatical list, and those through it begin none; or it is the end, and the whole list begins
-- one and is none.
pub record IsFirstWrong (tokens : Tokens) (at : ℕ) : Type 0 where
  pub within : at ≤ length tokens
  pub before : BeginsOne (take at tokens)
  pub through : at + 1 ≤ length tokens → ¬ (BeginsOne (take (at + 1) tokens))
  pub whole : ¬ (IsGrammatical tokens)
