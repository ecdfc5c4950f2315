pub use Rattle.dsde_language.specs.given.faults.end_LeafEnd
pub use Rattle.dsde_language.specs.given.faults.end_LeafEnd_TheVariants
pub use Rattle.dsde_language.specs.given.faults.kind_FaultKind_TheVariants
pub use Rattle.dsde_language.specs.given.faults.kind_Site
pub use Rattle.dsde_language.specs.given.faults.kind_Site_TheVariants
