pub use Rattle.dsde_check_scope.specs.Says
pub use Rattle.dsde_check_scope.specs.declared.error.CheckError as error_CheckError
pub use Rattle.dsde_check_scope.specs.declared.error.CheckError.TheVariants as error_CheckError_TheVariants
