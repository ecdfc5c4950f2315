-- The models that may be run.
use Rattle.std.specs.Prelude.{◌≡◌, None}
use Rattle.dsde_syntax.specs.declared.decl.Model.{Model}
use Rattle.dsde_syntax.specs.Shape.{IsShaped}
use Rattle.dsde_language.specs.Rules.{first_wrong}

-- a model that a text can spell, in which nothing is wrong
pub record IsRight (model : Model) : Type 0 where
  pub shaped : IsShaped model
  pub sound : first_wrong model ≡ None
