pub use Rattle.dsde_executive_plans.specs.Drafts
pub use Rattle.dsde_executive_plans.specs.Layout
pub use Rattle.dsde_executive_plans.specs.declared.placed.PlacedLink as placed_PlacedLink
