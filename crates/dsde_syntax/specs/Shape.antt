-- The models that a text can spell.
use Rattle.std.specs.Prelude.{◌≡◌, ◌<◌, ◌^◌, IsTrue, length, All, Some}
use Rattle.dsde_syntax.specs.declared.decl.Model.{Model}
use Rattle.dsde_syntax.specs.Spelling.{IsToken}
use Rattle.dsde_syntax.specs.Grammar.{tokens_of}
use Rattle.dsde_syntax.specs.Levels.{has_levels}
use Rattle.dsde_syntax.specs.Places.{span_of}

-- each node stands in its level of the grammar, each identifier and each number is one, the tokens
-- are fewer than 2^32, and each place is the index of its token
pub record IsShaped (model : Model) : Type 0 where
  pub levels : IsTrue (has_levels model)
  pub tokens : All IsToken (tokens_of model)
  pub few : length (tokens_of model) < 2 ^ 32
  pub places : span_of model 0 ≡ Some (length (tokens_of model))
