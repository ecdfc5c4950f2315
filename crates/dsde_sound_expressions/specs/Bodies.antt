-- Bodies of a model: of its atomic models, and of the executives of its networks.
use Rattle.std.specs.Prelude.{◌≡◌, ℕ, true, false, List, [], ◌∷◌, ◌++◌, Option, Some, None, slice_get}
use Rattle.dsde_language.specs.given.syntax.expr_Expr.{Expr}
use Rattle.dsde_language.specs.given.syntax.decl_Model.{Model}
use Rattle.dsde_language.specs.given.syntax.decl_Phase.{Phase}
use Rattle.dsde_language.specs.given.syntax.decl_StateDecl.{StateDecl}
use Rattle.dsde_language.specs.given.values.types_Field.{Field}
use Rattle.dsde_language.specs.given.values.types_Ty_TheVariants as ty
use Rattle.dsde_language.specs.RuleTables.{by_text}
use Rattle.dsde_language.specs.declared.code.Code.{Code}
use Rattle.dsde_language.specs.declared.node_ids.BlockId.{BlockId}
use Rattle.dsde_language.specs.declared.node_ids.ExprId.{ExprId}
use Rattle.dsde_language.specs.declared.info.Info.{Info}
use Rattle.dsde_language.specs.DeclaredModels.{top_number, whole_of, port_fields, Own, owns_of, param_slots, state_slots, body_ins, body_outs, TopOf, top_in}
use Rattle.dsde_language.specs.NodeModels.{infos_of, resolved}
use Rattle.dsde_language.specs.Statements.{input_fields, phase_at}
use Rattle.dsde_sound_expressions.specs.Places.{IsExpr, IsBlock}

abbrev pub body_slots : Model → Own → List Field
body_slots model own = param_slots model own ++ state_slots model own

abbrev pub moved_slots : Model → Own → List Field
moved_slots model own = body_slots model own ++ input_fields (body_ins model own)

-- the first values of state variables, each over the parameters and the state variables before it
abbrev pub InitsStand : Model → List Field → List StateDecl → List ExprId → Type 0
InitsStand model slots [] [] = Unit {0}
InitsStand model slots (state ∷ states) (number ∷ numbers) =
    IsExpr model false slots number.0 state.value (by_text (whole_of model).words state.ty)
    × InitsStand model (slots ++ record { name = state.name.name; ty = by_text (whole_of model).words state.ty } ∷ []) states numbers
InitsStand model slots _ _ = ⊥

-- A block that may be left out stands at its number.
abbrev pub PhaseStands : Model → List Field → List Field → Option BlockId → Option Phase → Type 0
PhaseStands model slots outs None None = Unit {0}
PhaseStands model slots outs (Some block) (Some phase) = IsBlock model slots outs block.0 phase.stmts
PhaseStands model slots outs _ _ = ⊥

-- The body of a model and what it is resolved to: each part stands at its number, over its slots.
pub record BodyStands (model : Model) (own : Own) (code : Code) : Type 0 where
  pub inits : InitsStand model (param_slots model own) own.body.states code.inits
  pub advance : IsExpr model false (body_slots model own) code.advance.0 own.body.advance (ty.Opt ty.Int)
  pub output : PhaseStands model (body_slots model own) (body_outs model own) code.output own.body.output
  pub internal : PhaseStands model (body_slots model own) [] code.internal own.body.internal
  pub external : PhaseStands model (moved_slots model own) [] code.external own.body.external
  pub confluent : PhaseStands model (moved_slots model own) [] code.confluent own.body.confluent
  pub start_at : code.start_at ≡ own.start_at
  pub advance_at : code.advance_at ≡ own.body.advance_at
  pub external_at : code.external_at ≡ phase_at own.body.external
  pub confluent_at : code.confluent_at ≡ phase_at own.body.confluent

-- What a model declares of itself: its parameters, ports and state variables, in their order.
pub record InfoIs (model : Model) (own : Own) (info : Info) : Type 0 where
  pub name : info.name ≡ own.name.name
  pub network : info.network ≡ own.network
  pub params : info.params ≡ param_slots model own
  pub ins : info.ins ≡ port_fields (whole_of model) false own.ports
  pub outs : info.outs ≡ port_fields (whole_of model) true own.ports
  pub states : info.states ≡ state_slots model own

-- The atomic model or network with a number, as its text, its body and what it declares.
pub record IsOwn (model : Model) (number : ℕ) (own : Own) : Type 0 where
  pub found : slice_get (owns_of model.decls) number ≡ Some own
  pub code : Code
  pub coded : slice_get (resolved model).own.codes number ≡ Some code
  pub body : BodyStands model own code
  pub info : Info
  pub told : slice_get (infos_of model) number ≡ Some info
  pub is : InfoIs model own info

-- Expressions over no name, of the types of these fields.
abbrev pub ArgsStand : Model → List Field → List Expr → List ExprId → Type 0
ArgsStand model [] [] [] = Unit {0}
ArgsStand model (field ∷ fields) (arg ∷ args) (number ∷ numbers) =
    IsExpr model false [] number.0 arg field.ty × ArgsStand model fields args numbers
ArgsStand model _ _ _ = ⊥

-- The model that runs, by the number that its name has, and its arguments, each at its number.
pub record TopStands (model : Model) : Type 0 where
  pub top : TopOf
  pub found : top_in model.decls ≡ Some top
  pub own : Own
  pub at : slice_get (owns_of model.decls) (top_number model).0 ≡ Some own
  pub named : own.name.name ≡ top.name
  pub args : ArgsStand model (param_slots model own) top.args (resolved model).own.top_args
