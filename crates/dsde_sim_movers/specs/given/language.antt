pub use Rattle.dsde_sim_tree.specs.given.language.DeclaredModels
pub use Rattle.dsde_sim_tree.specs.given.language.DeclaredStructures
pub use Rattle.dsde_sim_tree.specs.given.language.Meaning
pub use Rattle.dsde_sim_tree.specs.given.language.Outcome
pub use Rattle.dsde_sim_tree.specs.given.language.Right
pub use Rattle.dsde_sim_tree.specs.given.language.ids_ModelId
