pub use Rattle.dsde_language.specs.DeclaredModels
pub use Rattle.dsde_language.specs.DeclaredStructures
pub use Rattle.dsde_language.specs.Meaning
pub use Rattle.dsde_language.specs.MeaningTables
pub use Rattle.dsde_language.specs.Names
pub use Rattle.dsde_language.specs.Outcome
pub use Rattle.dsde_language.specs.declared.ids.ModelId as ids_ModelId
pub use Rattle.dsde_language.specs.declared.known.Known as known_Known
pub use Rattle.dsde_language.specs.declared.make.Make as make_Make
pub use Rattle.dsde_language.specs.declared.make.Make.TheFolds as make_Make_TheFolds
pub use Rattle.dsde_language.specs.declared.make.Make.TheOpen as make_Make_TheOpen
pub use Rattle.dsde_language.specs.declared.make.MakeArm as make_MakeArm
pub use Rattle.dsde_language.specs.declared.make.MakeEnd as make_MakeEnd
pub use Rattle.dsde_language.specs.declared.make.MakeIndex as make_MakeIndex
pub use Rattle.dsde_language.specs.declared.make.MakePart as make_MakePart
pub use Rattle.dsde_language.specs.declared.make.MakePart.TheVariants as make_MakePart_TheVariants
pub use Rattle.dsde_language.specs.declared.make.MakeVia as make_MakeVia
pub use Rattle.dsde_language.specs.declared.node_ids.ExprId as node_ids_ExprId
