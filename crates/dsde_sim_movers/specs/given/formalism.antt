pub use Rattle.dsde_sim_tree.specs.given.formalism.Leaf
pub use Rattle.dsde_sim_tree.specs.given.formalism.System
pub use Rattle.dsde_sim_tree.specs.given.formalism.leaf_Leaf
