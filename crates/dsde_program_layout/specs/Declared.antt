-- That what a model is resolved to has what its file declares.
use Rattle.std.specs.Prelude.{◌≡◌, ℕ, List, Option, Some, None, if◌then◌else◌, slice_get}
use Rattle.dsde_language.specs.given.syntax.decl_Model.{Model}
use Rattle.dsde_language.specs.given.values.types_Field.{Field}
use Rattle.dsde_language.specs.DeclaredModels.{Own, body_ins, body_outs, own_ins, own_outs, owns_of, param_slots, state_slots, top_number}
use Rattle.dsde_language.specs.declared.info.Info.{Info}
use Rattle.dsde_language.specs.NodeModels.{infos_of, resolved}

-- The model that runs has the number that the name behind `top` has.
abbrev pub TopIsNamed : Type 0
TopIsNamed = (model : Model) → (resolved model).own.top_model ≡ top_number model

-- the in ports and the out ports of an atomic model, or of a network's executive
abbrev pub leaf_ins : Info → List Field
leaf_ins info = if info.network then info.boss_ins else info.ins

abbrev pub leaf_outs : Info → List Field
leaf_outs info = if info.network then info.boss_outs else info.outs

-- What is told of an atomic model or a network is what its declaration says.
pub record IsDeclared (model : Model) (own : Own) (info : Info) : Type 0 where
  pub name : info.name ≡ own.name.name
  pub at : info.at ≡ own.at
  pub network : info.network ≡ own.network
  pub params : info.params ≡ param_slots model own
  pub ins : info.ins ≡ own_ins model own
  pub outs : info.outs ≡ own_outs model own
  pub body_ins : leaf_ins info ≡ body_ins model own
  pub body_outs : leaf_outs info ≡ body_outs model own
  pub states : info.states ≡ state_slots model own

-- Both are there and agree, or neither is.
abbrev pub Declares : Model → Option Own → Option Info → Type 0
Declares model None None = Unit {0}
Declares model (Some own) (Some info) = IsDeclared model own info
Declares model _ _ = ⊥

-- Each number has what is declared there.
abbrev pub InfosAreDeclared : Type 0
InfosAreDeclared = (model : Model) (number : ℕ) → Declares model (slice_get (owns_of model.decls) number) (slice_get (infos_of model) number)
