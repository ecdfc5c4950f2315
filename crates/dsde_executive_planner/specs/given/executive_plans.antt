pub use Rattle.dsde_executive_plans.specs.Drafts
