pub use Rattle.dsde_values.specs.Value
pub use Rattle.dsde_values.specs.declared.arrival.Item as arrival_Item
pub use Rattle.dsde_values.specs.declared.types.Def as types_Def
pub use Rattle.dsde_values.specs.declared.types.Field as types_Field
pub use Rattle.dsde_values.specs.declared.types.Shape as types_Shape
pub use Rattle.dsde_values.specs.declared.types.Shape.TheVariants as types_Shape_TheVariants
pub use Rattle.dsde_values.specs.declared.types.Ty as types_Ty
pub use Rattle.dsde_values.specs.declared.types.Ty.TheOpen as types_Ty_TheOpen
pub use Rattle.dsde_values.specs.declared.types.Ty.TheVariants as types_Ty_TheVariants
pub use Rattle.dsde_values.specs.declared.types.Ty.TheViews as types_Ty_TheViews
pub use Rattle.dsde_values.specs.declared.types.Types as types_Types
pub use Rattle.dsde_values.specs.declared.value.Value as value_Value
pub use Rattle.dsde_values.specs.declared.value.Value.TheOpen as value_Value_TheOpen
pub use Rattle.dsde_values.specs.declared.value.Value.TheVariants as value_Value_TheVariants
pub use Rattle.dsde_values.specs.declared.value.Value.TheViews as value_Value_TheViews
