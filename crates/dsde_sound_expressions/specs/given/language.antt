pub use Rattle.dsde_language.specs.DeclaredModels
pub use Rattle.dsde_language.specs.DeclaredStructures
pub use Rattle.dsde_language.specs.Flow
pub use Rattle.dsde_language.specs.Functions
pub use Rattle.dsde_language.specs.Meaning
pub use Rattle.dsde_language.specs.Names
pub use Rattle.dsde_language.specs.NodeModels
pub use Rattle.dsde_language.specs.Outcome
pub use Rattle.dsde_language.specs.Proper
pub use Rattle.dsde_language.specs.Typed
pub use Rattle.dsde_language.specs.declared.ids.ModelId as ids_ModelId
