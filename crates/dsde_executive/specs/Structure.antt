-- What a structure comes to, and what fits it.
use Rattle.std.specs.Prelude.{◌≡◌, ℕ, Some, Result, Ok, Err, slice_get}
use Rattle.dsde_language.specs.given.syntax.decl_Model.{Model}
use Rattle.dsde_faults.specs.declared.kind.Site.TheVariants as site
use Rattle.dsde_faults.specs.declared.end.EvalEnd.{EvalEnd}
use Rattle.dsde_faults.specs.declared.end.EvalEnd.TheVariants as eval_end
use Rattle.dsde_faults.specs.declared.end.LeafEnd.{LeafEnd}
use Rattle.dsde_faults.specs.declared.end.LeafEnd.TheVariants as leaf_end
use Rattle.dsde_executive_planner.specs.given.structure.plan_Plan.{Plan}
use Rattle.dsde_language.specs.DeclaredModels.{Own, owns_of}
use Rattle.dsde_sound_structures.specs.given.system.Plans.{FitsPlan}

-- what a structure came to, as its network has it
abbrev pub in_structure : Result Plan EvalEnd → Result Plan LeafEnd
in_structure (Ok plan) = Ok plan
in_structure (Err (eval_end.Fault kind at)) = Err (leaf_end.Fault site.Structure kind at)
in_structure (Err eval_end.Memory) = Err leaf_end.Memory

-- A plan fits the network with this number.
pub record IsPlan (model : Model) (number : ℕ) (plan : Plan) : Type 0 where
  pub own : Own
  pub found : slice_get (owns_of model.decls) number ≡ Some own
  pub fits : FitsPlan model own plan
