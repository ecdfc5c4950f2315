-- What the proofs rely on: the laws of components, of structures and of what links carry, of a model in which nothing is wrong.
use Rattle.std.proofs.Common.{◌≡◌, ◌↔◌, true, List}
use Rattle.std.specs.List.{Contains, list_any}
use Rattle.std.specs.declared.cmp.Ordering.TheVariants.{Equal}
use Rattle.dsde_syntax.specs.declared.decl.Model.{Model}
use Rattle.dsde_values.specs.declared.name.Name.{Name}
use Rattle.dsde_values.specs.declared.value.Value.{Value}
use Rattle.dsde_values.specs.Path.{name_cmp}
use Rattle.dsde_language.specs.declared.ids.ModelId.{ModelId}
use Rattle.dsde_language.specs.Right.{IsRight}
use Rattle.dsde_structure.specs.declared.plan.Entry.{Entry}
use Rattle.dsde_structure.specs.Survival.{survives, StaysAs}
use Rattle.dsde_formalism.specs.System.{State}
use Rattle.dsde_sim_starting.specs.given.system.Program.{system}
use Rattle.dsde_sim_starting.specs.given.system.Fitting.{FitsArgs, FitsState}
use Rattle.dsde_sim_starting.specs.given.sound_structures.Carrying.{GatheredFit, ReachCovers, SentFit}
use Rattle.dsde_sim_starting.specs.given.sound_structures.Sure.{Sure, IsSure, FitsNetwork, FitsChosen}

pub record Laws (model : Model) : Type 0 where
  pub right : IsRight model
  pub component : (number : ModelId) (args : List Value) → FitsArgs model number.0 args → IsSure model number args
  pub structure : (number : ModelId) (args : List Value) (state : State) → (system model).is_network number ≡ true → FitsArgs model number.0 args → FitsState model number.0 state
      → Sure (FitsNetwork model number.0) (((system model).network number args).structure state)
  pub top : Sure (FitsChosen model) (system model).top
  pub gathered : GatheredFit
  pub sent : SentFit
  pub covers : ReachCovers
  pub one : (name other : Name) → (name_cmp name other ≡ Equal) ↔ (name ≡ other)
  pub survivor : (old : Entry) (news : List Entry) → (list_any (survives old) news ≡ true) ↔ ((new : Entry) × Contains news new × StaysAs old new)
