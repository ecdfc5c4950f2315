pub use Rattle.dsde_values.specs.Path
pub use Rattle.dsde_values.specs.When
pub use Rattle.dsde_values.specs.declared.arrival.Item as arrival_Item
pub use Rattle.dsde_values.specs.declared.name.Name as name_Name
pub use Rattle.dsde_values.specs.declared.types.Field as types_Field
pub use Rattle.dsde_values.specs.declared.types.Ty as types_Ty
pub use Rattle.dsde_values.specs.declared.types.Types as types_Types
pub use Rattle.dsde_values.specs.declared.value.Value as value_Value
pub use Rattle.dsde_values.specs.declared.value.Value.TheVariants as value_Value_TheVariants
pub use Rattle.dsde_values.specs.declared.when.When as when_When
pub use Rattle.dsde_values.specs.declared.when.When.TheVariants as when_When_TheVariants
