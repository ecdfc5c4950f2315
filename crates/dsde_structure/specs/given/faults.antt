pub use Rattle.dsde_language.specs.given.faults.end_EvalEnd
pub use Rattle.dsde_language.specs.given.faults.end_EvalEnd_TheVariants
pub use Rattle.dsde_language.specs.given.faults.kind_FaultKind_TheVariants
