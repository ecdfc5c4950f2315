pub use Rattle.dsde_check_expressions.specs.given.check_scope.Says
pub use Rattle.dsde_check_expressions.specs.given.check_scope.error_CheckError
pub use Rattle.dsde_check_expressions.specs.given.check_scope.error_CheckError_TheVariants
