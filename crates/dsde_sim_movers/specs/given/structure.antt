pub use Rattle.dsde_sim_tree.specs.given.structure.plan_Entry
pub use Rattle.dsde_sim_tree.specs.given.structure.plan_Link
pub use Rattle.dsde_sim_tree.specs.given.structure.plan_Plan
