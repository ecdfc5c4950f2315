-- Values that go along the translations of a row.
use Rattle.std.specs.Prelude.{◌≡◌, List, [], ◌∷◌}
use Rattle.dsde_syntax.specs.declared.decl.Model.{Model}
use Rattle.dsde_values.specs.declared.types.Ty.{Ty}
use Rattle.dsde_values.specs.declared.value.Value.{Value}
use Rattle.dsde_language.specs.DeclaredModels.{types_of}
use Rattle.dsde_routes_wiring.specs.given.structure.plan_Via.{Via}
use Rattle.dsde_language.specs.Typed.{Typed}
use Rattle.dsde_core_moves.specs.given.system.Fitting.{AreOf}
use Rattle.dsde_core_moves.specs.given.system.Plans.{Takes}

-- Translations one after another take values of one type to values of another; where there is none, the
-- types are the same.
abbrev pub TakeAlong : Model → List Via → Ty → Ty → Type 0
TakeAlong model [] from to = from ≡ to
TakeAlong model (via ∷ chain) from to = (between : Ty) × Takes model via from between × TakeAlong model chain between to

-- A value has the type that translations take, one after another.
pub record GoesAlong (model : Model) (chain : List Via) (own : Value) : Type 0 where
  pub from : Ty
  pub to : Ty
  pub takes : TakeAlong model chain from to
  pub typed : Typed (types_of model) from own

-- So has each of these values.
pub record GoAlong (model : Model) (chain : List Via) (values : List Value) : Type 0 where
  pub from : Ty
  pub to : Ty
  pub takes : TakeAlong model chain from to
  pub typed : AreOf (types_of model) from values
