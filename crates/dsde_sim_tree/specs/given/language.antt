pub use Rattle.dsde_language.specs.Agreement
pub use Rattle.dsde_language.specs.Blocks
pub use Rattle.dsde_language.specs.DeclaredModels
pub use Rattle.dsde_language.specs.DeclaredStructures
pub use Rattle.dsde_language.specs.Expressions
pub use Rattle.dsde_language.specs.Flow
pub use Rattle.dsde_language.specs.Functions
pub use Rattle.dsde_language.specs.Items
pub use Rattle.dsde_language.specs.Judge
pub use Rattle.dsde_language.specs.Meaning
pub use Rattle.dsde_language.specs.MeaningTables
pub use Rattle.dsde_language.specs.Names
pub use Rattle.dsde_language.specs.NodeModels
pub use Rattle.dsde_language.specs.Outcome
pub use Rattle.dsde_language.specs.Pieces
pub use Rattle.dsde_language.specs.Proper
pub use Rattle.dsde_language.specs.Right
pub use Rattle.dsde_language.specs.RuleStructures
pub use Rattle.dsde_language.specs.RuleTables
pub use Rattle.dsde_language.specs.Rules
pub use Rattle.dsde_language.specs.Scopes
pub use Rattle.dsde_language.specs.Statements
pub use Rattle.dsde_language.specs.Steps
pub use Rattle.dsde_language.specs.Typed
pub use Rattle.dsde_language.specs.Types
pub use Rattle.dsde_language.specs.Typing
pub use Rattle.dsde_language.specs.declared.code.Code as code_Code
pub use Rattle.dsde_language.specs.declared.code.ViaCode as code_ViaCode
pub use Rattle.dsde_language.specs.declared.ids.ModelId as ids_ModelId
pub use Rattle.dsde_language.specs.declared.info.Info as info_Info
pub use Rattle.dsde_language.specs.declared.known.Around as known_Around
pub use Rattle.dsde_language.specs.declared.known.Known as known_Known
pub use Rattle.dsde_language.specs.declared.known.Site as known_Site
pub use Rattle.dsde_language.specs.declared.make.Make as make_Make
pub use Rattle.dsde_language.specs.declared.make.Make.TheFolds as make_Make_TheFolds
pub use Rattle.dsde_language.specs.declared.make.Make.TheOpen as make_Make_TheOpen
pub use Rattle.dsde_language.specs.declared.make.Make.TheVariants as make_Make_TheVariants
pub use Rattle.dsde_language.specs.declared.make.Make.TheViews as make_Make_TheViews
pub use Rattle.dsde_language.specs.declared.make.MakeArm as make_MakeArm
pub use Rattle.dsde_language.specs.declared.make.MakeEnd as make_MakeEnd
pub use Rattle.dsde_language.specs.declared.make.MakeIndex as make_MakeIndex
pub use Rattle.dsde_language.specs.declared.make.MakePart as make_MakePart
pub use Rattle.dsde_language.specs.declared.make.MakePart.TheVariants as make_MakePart_TheVariants
pub use Rattle.dsde_language.specs.declared.make.MakeVia as make_MakeVia
pub use Rattle.dsde_language.specs.declared.node.Node as node_Node
pub use Rattle.dsde_language.specs.declared.node_ids.BlockId as node_ids_BlockId
pub use Rattle.dsde_language.specs.declared.node_ids.ExprId as node_ids_ExprId
pub use Rattle.dsde_language.specs.declared.seen.Binding as seen_Binding
pub use Rattle.dsde_language.specs.declared.seen.EndSeen as seen_EndSeen
pub use Rattle.dsde_language.specs.declared.seen.Seen as seen_Seen
pub use Rattle.dsde_language.specs.declared.seen.TypeSeen as seen_TypeSeen
pub use Rattle.dsde_language.specs.declared.signatures.Family as signatures_Family
pub use Rattle.dsde_language.specs.declared.signatures.ModelSig as signatures_ModelSig
pub use Rattle.dsde_language.specs.declared.signatures.Port as signatures_Port
pub use Rattle.dsde_language.specs.declared.signatures.TypeWord as signatures_TypeWord
pub use Rattle.dsde_language.specs.declared.wrong.Wrong as wrong_Wrong
pub use Rattle.dsde_language.specs.declared.wrong.WrongKind as wrong_WrongKind
pub use Rattle.dsde_language.specs.declared.wrong.WrongKind.TheVariants as wrong_WrongKind_TheVariants
