pub use Rattle.dsde_run.specs.Counting
pub use Rattle.dsde_run.specs.Reading
pub use Rattle.dsde_run.specs.Resumed
pub use Rattle.dsde_run.specs.Resuming
pub use Rattle.dsde_run.specs.Run
pub use Rattle.dsde_run.specs.Saved
pub use Rattle.dsde_run.specs.SavedRuns
pub use Rattle.dsde_run.specs.declared.restoring.RestoreError as restoring_RestoreError
pub use Rattle.dsde_run.specs.declared.restoring.RestoreError.TheVariants as restoring_RestoreError_TheVariants
pub use Rattle.dsde_run.specs.declared.resuming.Unresumed as resuming_Unresumed
pub use Rattle.dsde_run.specs.declared.resuming.Unresumed.TheVariants as resuming_Unresumed_TheVariants
pub use Rattle.dsde_run.specs.declared.run.Cut as run_Cut
pub use Rattle.dsde_run.specs.declared.run.Cut.TheVariants as run_Cut_TheVariants
