pub use Rattle.dsde_sim_tree.specs.Told
pub use Rattle.dsde_sim_tree.specs.Turn
