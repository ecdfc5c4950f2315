pub use Rattle.dsde_formalism.specs.Leaf
pub use Rattle.dsde_formalism.specs.System
pub use Rattle.dsde_formalism.specs.declared.leaf.Leaf as leaf_Leaf
