-- That the structure of a network means in tables what it means over names, and gives plans that fit.
use Rattle.std.specs.Prelude.{◌≡◌, ◌≢◌, ℕ, ◌≤◌, List, Some, Ok, Err, slice_get}
use Rattle.dsde_sim_tree.specs.given.syntax.decl_Model.{Model}
use Rattle.dsde_sim_tree.specs.given.syntax.item_Item.{Item}
use Rattle.dsde_sim_tree.specs.given.language.make_Make.{Make}
use Rattle.dsde_sim_tree.specs.given.language.DeclaredModels.{whole_of, types_of, Own, owns_of}
use Rattle.dsde_sim_tree.specs.given.language.DeclaredStructures.{place_of_items}
use Rattle.dsde_sim_tree.specs.given.language.Right.{IsRight}
use Rattle.dsde_sim_tree.specs.given.structure.plan_Plan.{Plan}
use Rattle.dsde_sim_tree.specs.given.language.Outcome.{Stuck, Outcome}
use Rattle.dsde_sim_tree.specs.given.language.Meaning.{Vars}
use Rattle.dsde_sim_tree.specs.given.language.Functions.{functions_of}
use Rattle.dsde_sim_tree.specs.given.language.MeaningTables.{means_in}
use Rattle.dsde_sim_tree.specs.given.language.Typed.{Fits, values_in}
use Rattle.dsde_sound_names.specs.given.executive_plans.Layout.{structure}
use Rattle.dsde_sound_names.specs.given.executive_plans.Drafts.{planned}
use Rattle.dsde_sound_names.specs.given.sound_expressions.Bodies.{body_slots}
use Rattle.dsde_sound_names.specs.given.sound_expressions.Structures.{IsStructure}
use Rattle.dsde_sound_names.specs.given.sound_expressions.Coded.{coded_of}
use Rattle.dsde_system.specs.Plans.{FitsPlan}

-- the plan that the items of a network give over the variables of its body
abbrev pub structure_of : Model → Own → List Item → ℕ → Vars → Outcome Plan
structure_of model own items via vars =
    structure (place_of_items (whole_of model) own.ports own.body items) (functions_of model) items via vars

-- A structure over names and in tables: it is never stuck, to a depth of 512 it is the same, and its plan
-- fits the network.
pub record StructureAgrees (model : Model) (own : Own) (items : List Item) (via : ℕ) (makes : List Make) (vars : Vars) : Type 0 where
  pub sure : structure_of model own items via vars ≢ Err Stuck
  pub reads : (depth : ℕ) → 512 ≤ depth → planned (means_in (coded_of model) depth).part makes (values_in vars) ≡ structure_of model own items via vars
  pub fits : (plan : Plan) → structure_of model own items via vars ≡ Ok plan → FitsPlan model own plan

abbrev pub StructuresAgree : Type 0
StructuresAgree =
    (model : Model) (number : ℕ) (own : Own) (items : List Item) (via : ℕ) (makes : List Make) (vars : Vars)
    → IsRight model → slice_get (owns_of model.decls) number ≡ Some own → IsStructure model own items via makes
    → Fits (types_of model) vars (body_slots model own)
    → StructureAgrees model own items via makes vars
