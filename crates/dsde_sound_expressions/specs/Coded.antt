-- The tables of a model, and what its functions mean in them.
use Rattle.dsde_language.specs.given.syntax.decl_Model.{Model}
use Rattle.dsde_language.specs.declared.known.Known.{Known}
use Rattle.dsde_language.specs.DeclaredModels.{whole_of, types_of}
use Rattle.dsde_language.specs.NodeModels.{resolved}
use Rattle.dsde_language.specs.Right.{IsRight}
use Rattle.dsde_language.specs.Functions.{functions_of}
use Rattle.dsde_language.specs.MeaningTables.{Coded}
use Rattle.dsde_language.specs.Scopes.{Serve, Calls}
use Rattle.dsde_sound_expressions.specs.Places.{KnownAt}

-- the tables of a model
abbrev pub coded_of : Model → Coded
coded_of model = record { nodes = (resolved model).nodes; blocks = (resolved model).blocks; functions = (resolved model).own.functions }

-- The functions that are known at a place keep their types, and mean in the tables of their model what
-- they mean over names.
pub record FuncsAgree (model : Model) (known : Known) : Type 0 where
  pub serve : Serve (types_of model) known (functions_of model)
  pub calls : Calls (types_of model) (coded_of model) known (whole_of model) (functions_of model)

-- So they do at each place of a model in which nothing is wrong.
abbrev pub FunctionsAgree : Type 0
FunctionsAgree = (model : Model) (known : Known) → IsRight model → KnownAt model known → FuncsAgree model known
