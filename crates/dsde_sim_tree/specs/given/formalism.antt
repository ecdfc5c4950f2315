pub use Rattle.dsde_formalism.specs.Leaf
pub use Rattle.dsde_formalism.specs.System
pub use Rattle.dsde_formalism.specs.declared.leaf.Leaf as leaf_Leaf
pub use Rattle.dsde_formalism.specs.declared.leaf.MoveKind as leaf_MoveKind
pub use Rattle.dsde_formalism.specs.declared.leaf.MoveKind.TheVariants as leaf_MoveKind_TheVariants
