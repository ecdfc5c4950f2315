pub use Rattle.dsde_structure.specs.Gather
pub use Rattle.dsde_structure.specs.Survival
pub use Rattle.dsde_structure.specs.declared.plan.Change as plan_Change
pub use Rattle.dsde_structure.specs.declared.plan.End as plan_End
pub use Rattle.dsde_structure.specs.declared.plan.Entry as plan_Entry
pub use Rattle.dsde_structure.specs.declared.plan.Link as plan_Link
pub use Rattle.dsde_structure.specs.declared.plan.Part as plan_Part
pub use Rattle.dsde_structure.specs.declared.plan.Part.TheVariants as plan_Part_TheVariants
pub use Rattle.dsde_structure.specs.declared.plan.Plan as plan_Plan
pub use Rattle.dsde_structure.specs.declared.plan.Via as plan_Via
pub use Rattle.dsde_structure.specs.declared.sources.Given as sources_Given
pub use Rattle.dsde_structure.specs.declared.sources.Sources as sources_Sources
