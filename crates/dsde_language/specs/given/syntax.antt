pub use Rattle.dsde_syntax.specs.Grammar
pub use Rattle.dsde_syntax.specs.Levels
pub use Rattle.dsde_syntax.specs.Shape
pub use Rattle.dsde_syntax.specs.Spelling
pub use Rattle.dsde_syntax.specs.declared.decl.Body as decl_Body
pub use Rattle.dsde_syntax.specs.declared.decl.Decl as decl_Decl
pub use Rattle.dsde_syntax.specs.declared.decl.Decl.TheVariants as decl_Decl_TheVariants
pub use Rattle.dsde_syntax.specs.declared.decl.Model as decl_Model
pub use Rattle.dsde_syntax.specs.declared.decl.Phase as decl_Phase
pub use Rattle.dsde_syntax.specs.declared.decl.PortDecl as decl_PortDecl
pub use Rattle.dsde_syntax.specs.declared.decl.StateDecl as decl_StateDecl
pub use Rattle.dsde_syntax.specs.declared.decl.Typed as decl_Typed
pub use Rattle.dsde_syntax.specs.declared.expr.Expr as expr_Expr
pub use Rattle.dsde_syntax.specs.declared.expr.Expr.TheFolds as expr_Expr_TheFolds
pub use Rattle.dsde_syntax.specs.declared.expr.Expr.TheOpen as expr_Expr_TheOpen
pub use Rattle.dsde_syntax.specs.declared.expr.Expr.TheViews as expr_Expr_TheViews
pub use Rattle.dsde_syntax.specs.declared.expr.ExprArm as expr_ExprArm
pub use Rattle.dsde_syntax.specs.declared.expr.FieldSet as expr_FieldSet
pub use Rattle.dsde_syntax.specs.declared.expr.SignTail as expr_SignTail
pub use Rattle.dsde_syntax.specs.declared.expr.Suffix as expr_Suffix
pub use Rattle.dsde_syntax.specs.declared.expr.Tail as expr_Tail
pub use Rattle.dsde_syntax.specs.declared.id.Id as id_Id
pub use Rattle.dsde_syntax.specs.declared.item.Bracket as item_Bracket
pub use Rattle.dsde_syntax.specs.declared.item.End as item_End
pub use Rattle.dsde_syntax.specs.declared.item.EndPart as item_EndPart
pub use Rattle.dsde_syntax.specs.declared.item.EndPart.TheVariants as item_EndPart_TheVariants
pub use Rattle.dsde_syntax.specs.declared.item.Item as item_Item
pub use Rattle.dsde_syntax.specs.declared.item.Item.TheFolds as item_Item_TheFolds
pub use Rattle.dsde_syntax.specs.declared.item.Item.TheOpen as item_Item_TheOpen
pub use Rattle.dsde_syntax.specs.declared.item.Item.TheViews as item_Item_TheViews
pub use Rattle.dsde_syntax.specs.declared.item.ItemArm as item_ItemArm
pub use Rattle.dsde_syntax.specs.declared.item.ViaKey as item_ViaKey
pub use Rattle.dsde_syntax.specs.declared.item.ViaPart as item_ViaPart
pub use Rattle.dsde_syntax.specs.declared.stmt.Stmt as stmt_Stmt
pub use Rattle.dsde_syntax.specs.declared.stmt.Stmt.TheFolds as stmt_Stmt_TheFolds
pub use Rattle.dsde_syntax.specs.declared.stmt.Stmt.TheOpen as stmt_Stmt_TheOpen
pub use Rattle.dsde_syntax.specs.declared.stmt.Stmt.TheViews as stmt_Stmt_TheViews
pub use Rattle.dsde_syntax.specs.declared.stmt.StmtArm as stmt_StmtArm
pub use Rattle.dsde_syntax.specs.declared.token.Sign as token_Sign
pub use Rattle.dsde_syntax.specs.declared.token.Sign.TheVariants as token_Sign_TheVariants
pub use Rattle.dsde_syntax.specs.declared.token.Tok as token_Tok
pub use Rattle.dsde_syntax.specs.declared.token.Tok.TheVariants as token_Tok_TheVariants
pub use Rattle.dsde_syntax.specs.declared.type_name.TypeName as type_name_TypeName
pub use Rattle.dsde_syntax.specs.declared.type_name.TypeName.TheFolds as type_name_TypeName_TheFolds
pub use Rattle.dsde_syntax.specs.declared.type_name.TypeName.TheOpen as type_name_TypeName_TheOpen
pub use Rattle.dsde_syntax.specs.declared.type_name.TypeName.TheViews as type_name_TypeName_TheViews
