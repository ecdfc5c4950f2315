-- The plan of tables is the plan of the program.
use Rattle.std.proofs.Common.{◌≡◌, ◌≢◌, ℕ, true, List, [], ◌++◌, Option, Some, Result, Ok, Err, IfOk, slice_get, unwrap_or, refl, sym, ◌∙◌, ap, subst, arith}
use Rattle.dsde_language.specs.given.syntax.decl_Model.{Model}
use Rattle.dsde_language.specs.given.syntax.item_Item.{Item}
use Rattle.dsde_values.specs.declared.value.Value.{Value}
use Rattle.dsde_faults.specs.declared.kind.Site.TheVariants as site
use Rattle.dsde_faults.specs.declared.end.EvalEnd.{EvalEnd}
use Rattle.dsde_faults.specs.declared.end.EvalEnd.TheVariants as eval_end
use Rattle.dsde_language.specs.declared.ids.ModelId.{ModelId}
use Rattle.dsde_language.specs.declared.make.Make.{Make}
use Rattle.dsde_language.specs.DeclaredModels.{types_of, Own, owns_of, state_slots}
use Rattle.dsde_language.specs.NodeModels.{resolved}
use Rattle.dsde_language.specs.Right.{IsRight}
use Rattle.dsde_executive_planner.specs.given.structure.plan_Plan.{Plan}
use Rattle.dsde_language.specs.Outcome.{Stuck, Outcome, Gives}
use Rattle.dsde_language.specs.Meaning.{Vars}
use Rattle.dsde_language.specs.MeaningTables.{Coded, means_in}
use Rattle.dsde_executive_planner.specs.given.executive_plans.Drafts.{planned}
use Rattle.dsde_executive_planner.specs.given.eval_tables.Evaluating as evaluating
use Rattle.dsde_executive_planner.specs.declared.planner.Planner.{Planner}
use Rattle.dsde_executive_planner.specs.Drawing.{part_in}
use Rattle.dsde_sound_structures.specs.given.sound_expressions.Coded.{coded_of}
use Rattle.dsde_language.specs.DeclaredStructures.{structures_of, first_via}
use Rattle.dsde_sound_structures.specs.given.sound_expressions.Structures.{HasStructure, StructuresStand}
use Rattle.dsde_sound_structures.specs.Agreement.{StructureAgrees, StructuresAgree}
use Rattle.dsde_sound_structures.specs.given.formalism.Leaf as formalism
use Rattle.dsde_sound_structures.specs.given.system.Body.{at_site, body_vars}
use Rattle.dsde_sound_structures.specs.given.system.Program.{system, network_at, plan_at}
use Rattle.dsde_sound_structures.specs.given.system.Fitting.{Fill, FitsArgs, FitsState}
use Rattle.dsde_executive.specs.Structure.{in_structure, IsPlan}
use Rattle.dsde_executive.proofs.Seeing.{some-is, body-fits, body-are}

-- an outcome in the structure of a network
in-site : (meant : Outcome Plan) (result : Result Plan EvalEnd) → Gives meant result → formalism.Gives (at_site site.Structure meant) (in_structure result)
in-site meant (Ok plan) gives = rw gives refl
in-site meant (Err (eval_end.Fault kind at)) gives = rw gives refl
in-site meant (Err eval_end.Memory) gives = tt

-- the network with a number
net-own : (model : Model) (number : ModelId) (own : Own) → slice_get (owns_of model.decls) number.0 ≡ Some own → (system model).is_network number ≡ true → own.network ≡ true
unfolding system
net-own model number own found network = rw found at network

net-structure : (model : Model) (number : ModelId) (args state : List Value) (own : Own) (items : List Item)
    → slice_get (owns_of model.decls) number.0 ≡ Some own → slice_get (structures_of model.decls) number.0 ≡ Some items
    → ((system model).network number args).structure state ≡ at_site site.Structure (plan_at model own number.0 items args state)
unfolding system
net-structure model number args state own items found has =
    ap (λ (o : Option Own). (network_at model o number.0 args).structure state) found
    ∙ ap (λ (o : Option (List Item)). at_site site.Structure (plan_at model own number.0 (unwrap_or o []) args state)) has

module _ (model : Model) (number : ModelId) (args state : List Value) (stand : StructuresStand) (agree : StructuresAgree) (right : IsRight model)
    (network : (system model).is_network number ≡ true) (fits_args : FitsArgs model number.0 args) (fits_state : FitsState model number.0 state) where
  abbrev own : Own
  own = fits_args.own

  abbrev vars : Vars
  vars = body_vars model own args state

  abbrev has : HasStructure model number.0 own
  has = stand model number.0 own right fits_args.found (net-own model number own fits_args.found network)

  full : Fill (types_of model) (state_slots model own) state
  full = subst (λ (o : Own). Fill (types_of model) (state_slots model o) state) (some-is (slice_get (owns_of model.decls) number.0) fits_state.own own fits_state.found fits_args.found) fits_state.fill

  agrees : StructureAgrees model own has.items (first_via model number.0) has.makes vars
  agrees = agree model number.0 own has.items (first_via model number.0) has.makes vars right fits_args.found has.is (body-fits model own args state fits_args.fill full)

  abbrev meant : Outcome Plan
  meant = plan_at model own number.0 has.items args state

  module _ (planner : Planner) (coded : evaluating.coded_of planner.evaluator ≡ coded_of model) (depth : planner.depth ≡ 512)
      (makes : List Make) (found : Some makes ≡ slice_get (resolved model).own.makes number.0) (slots : List Value) (are : slots ≡ args ++ state) where
    -- what is planned in the tables is what is meant
    planned-is : planned (part_in planner) makes slots ≡ meant
    planned-is =
        ap (λ (c : Coded). planned (means_in c planner.depth).part makes slots) coded
        ∙ ap (λ (d : ℕ). planned (means_in (coded_of model) d).part makes slots) depth
        ∙ ap (λ (m : List Make). planned (means_in (coded_of model) 512).part m slots) (some-is (slice_get (resolved model).own.makes number.0) makes has.makes (sym found) has.coded)
        ∙ ap (λ (s : List Value). planned (means_in (coded_of model) 512).part has.makes s) (are ∙ sym (body-are model own args state fits_args.fill full))
        ∙ agrees.reads 512 (omega arith)

    pub planned-sure : planned (part_in planner) makes slots ≢ Err Stuck
    planned-sure = λ stuck. agrees.sure (sym planned-is ∙ stuck)

    module _ (result : Result Plan EvalEnd) (gives : Gives (planned (part_in planner) makes slots) result) where
      pub plan-gives : formalism.Gives (((system model).network number args).structure state) (in_structure result)
      plan-gives =
          subst (λ (o : _). formalism.Gives o (in_structure result)) (sym (net-structure model number args state own has.items fits_args.found has.found))
          (in-site meant result (subst (λ (o : Outcome Plan). Gives o result) planned-is gives))

    plan-fits-by : (result : Result Plan EvalEnd) → Gives meant result → IfOk result (λ plan. IsPlan model number.0 plan)
    plan-fits-by (Ok plan) gives = record { own = own; found = fits_args.found; fits = agrees.fits plan gives }
    plan-fits-by (Err end) gives = tt

    pub plan-fits : (result : Result Plan EvalEnd) → Gives (planned (part_in planner) makes slots) result → IfOk result (λ plan. IsPlan model number.0 plan)
    plan-fits result gives = plan-fits-by result (subst (λ (o : Outcome Plan). Gives o result) planned-is gives)
