-- Where the parts of a model in which nothing is wrong stand.
use Rattle.std.specs.Prelude.{ℕ, ◌<◌, length}
use Rattle.dsde_language.specs.given.syntax.decl_Model.{Model}
use Rattle.dsde_language.specs.declared.known.Known.{Known}
use Rattle.dsde_language.specs.DeclaredModels.{whole_of, types_of, Own}
use Rattle.dsde_language.specs.NodeModels.{infos_of}
use Rattle.dsde_language.specs.Right.{IsRight}
use Rattle.dsde_language.specs.Scopes.{Within}
use Rattle.dsde_sound_expressions.specs.Places.{KnownAt}
use Rattle.dsde_sound_expressions.specs.Bodies.{IsOwn, TopStands}

abbrev pub KnownIsWithin : Type 0
KnownIsWithin = (model : Model) (known : Known) → IsRight model → KnownAt model known → Within (types_of model) known (whole_of model)

-- the atomic model or network with a number
pub record HasOwn (model : Model) (number : ℕ) : Type 0 where
  pub own : Own
  pub is : IsOwn model number own

abbrev pub BodiesStand : Type 0
BodiesStand = (model : Model) (number : ℕ) → IsRight model → number < length (infos_of model) → HasOwn model number

abbrev pub TopsStand : Type 0
TopsStand = (model : Model) → IsRight model → TopStands model
