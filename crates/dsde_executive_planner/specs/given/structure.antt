pub use Rattle.dsde_executive_plans.specs.given.structure.plan_Plan
