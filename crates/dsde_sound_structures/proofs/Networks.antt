-- The structure of a network.
use Rattle.std.proofs.Common.{◌≡◌, ◌≢◌, true, false, List, [], Option, Some, Ok, Err, slice_get, unwrap_or, refl, sym, ◌∙◌, ap, subst}
use Rattle.dsde_sim_tree.specs.given.syntax.decl_Model.{Model}
use Rattle.dsde_sim_tree.specs.given.syntax.item_Item.{Item}
use Rattle.dsde_values.specs.declared.value.Value.{Value}
use Rattle.dsde_faults.specs.declared.kind.Site.TheVariants as site
use Rattle.dsde_sim_tree.specs.given.language.ids_ModelId.{ModelId}
use Rattle.dsde_sim_tree.specs.given.language.DeclaredModels.{types_of, Own, owns_of, param_slots, state_slots}
use Rattle.dsde_sim_tree.specs.given.language.Right.{IsRight}
use Rattle.dsde_sim_tree.specs.given.language.Outcome.{Fault, Stuck, Outcome}
use Rattle.dsde_sim_tree.specs.given.language.Meaning.{Vars}
use Rattle.dsde_sim_tree.specs.given.language.Typed.{Sound, Fits}
use Rattle.dsde_sound_names.specs.given.sound_expressions.Bodies.{body_slots}
use Rattle.dsde_sim_tree.specs.given.language.DeclaredStructures.{structures_of, first_via}
use Rattle.dsde_sound_names.specs.given.sound_expressions.Structures.{HasStructure, StructuresStand}
use Rattle.dsde_sound_structures.specs.Agreement.{StructureAgrees, StructuresAgree}
use Rattle.dsde_sim_tree.specs.given.formalism.System.{State}
use Rattle.dsde_system.specs.Body.{at_site, vars_of, body_vars}
use Rattle.dsde_system.specs.Program.{system, network_at, plan_at}
use Rattle.dsde_system.specs.Fitting.{Fill, FitsArgs, FitsState}
use Rattle.dsde_sound_structures.specs.Sure.{Sure, FitsNetwork}
use Rattle.dsde_sound_structures.specs.lemmas.Steps.{sure-at}
use Rattle.dsde_sound_structures.proofs.Filling.{fits-vars, fits-append}

some-is : {A : Type 0} (o : Option A) (a b : A) → o ≡ Some a → o ≡ Some b → a ≡ b
some-is o a b e h = cc

-- what is not stuck comes to a value or to a fault
not-stuck : {A : Type 0} (P : A → Type 0) (meant : Outcome A) → meant ≢ Err Stuck → ((value : A) → meant ≡ Ok value → P value) → Sound false P meant
not-stuck P (Ok value) sure holds = holds value refl
not-stuck P (Err (Fault kind at)) sure holds = refl
not-stuck P (Err Stuck) sure holds = absurd (sure refl)

network-own : (model : Model) (number : ModelId) (own : Own) → slice_get (owns_of model.decls) number.0 ≡ Some own → (system model).is_network number ≡ true → own.network ≡ true
unfolding system
network-own model number own found network = rw found at network

structure-is : (model : Model) (number : ModelId) (args : List Value) (state : State) (own : Own) (items : List Item)
    → slice_get (owns_of model.decls) number.0 ≡ Some own → slice_get (structures_of model.decls) number.0 ≡ Some items
    → ((system model).network number args).structure state ≡ at_site site.Structure (plan_at model own number.0 items args state)
unfolding system
structure-is model number args state own items found has =
    ap (λ (o : Option Own). (network_at model o number.0 args).structure state) found
    ∙ ap (λ (o : Option (List Item)). at_site site.Structure (plan_at model own number.0 (unwrap_or o []) args state)) has

module _ (stand : StructuresStand) (agree : StructuresAgree) (model : Model) (number : ModelId) (args : List Value) (state : State) (right : IsRight model)
    (network : (system model).is_network number ≡ true) (fits : FitsArgs model number.0 args) (stood : FitsState model number.0 state) where
  abbrev own : Own
  own = fits.own

  abbrev vars : Vars
  vars = body_vars model own args state

  abbrev has : HasStructure model number.0 own
  has = stand model number.0 own right fits.found (network-own model number own fits.found network)

  full : Fill (types_of model) (state_slots model own) state
  full = subst (λ (o : Own). Fill (types_of model) (state_slots model o) state) (some-is (slice_get (owns_of model.decls) number.0) stood.own own stood.found fits.found) stood.fill

  sees : Fits (types_of model) vars (body_slots model own)
  sees =
      fits-append (types_of model) (vars_of (param_slots model own) args) (vars_of (state_slots model own) state) (param_slots model own) (state_slots model own)
      (fits-vars (types_of model) (param_slots model own) args fits.fill) (fits-vars (types_of model) (state_slots model own) state full)

  agrees : StructureAgrees model own has.items (first_via model number.0) has.makes vars
  agrees = agree model number.0 own has.items (first_via model number.0) has.makes vars right fits.found has.is sees

  pub structure-sure : Sure (FitsNetwork model number.0) (((system model).network number args).structure state)
  structure-sure =
      subst (λ (o : _). Sure (FitsNetwork model number.0) o) (sym (structure-is model number args state own has.items fits.found has.found))
      (sure-at site.Structure (FitsNetwork model number.0) (plan_at model own number.0 has.items args state)
      (not-stuck (FitsNetwork model number.0) (plan_at model own number.0 has.items args state) agrees.sure (λ plan is. record { own = own; found = fits.found; fits = agrees.fits plan is })))
