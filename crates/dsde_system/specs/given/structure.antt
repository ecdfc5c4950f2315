pub use Rattle.dsde_executive_plans.specs.given.structure.Survival
pub use Rattle.dsde_executive_plans.specs.given.structure.plan_Entry
pub use Rattle.dsde_executive_plans.specs.given.structure.plan_Plan
