pub use Rattle.dsde_sim_tree.specs.given.formalism.Leaf
