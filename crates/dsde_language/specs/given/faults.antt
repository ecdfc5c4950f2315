pub use Rattle.dsde_faults.specs.declared.end.EvalEnd as end_EvalEnd
pub use Rattle.dsde_faults.specs.declared.end.EvalEnd.TheVariants as end_EvalEnd_TheVariants
pub use Rattle.dsde_faults.specs.declared.end.LeafEnd as end_LeafEnd
pub use Rattle.dsde_faults.specs.declared.end.LeafEnd.TheVariants as end_LeafEnd_TheVariants
pub use Rattle.dsde_faults.specs.declared.kind.FaultKind.TheVariants as kind_FaultKind_TheVariants
pub use Rattle.dsde_faults.specs.declared.kind.Site as kind_Site
pub use Rattle.dsde_faults.specs.declared.kind.Site.TheVariants as kind_Site_TheVariants
