pub use Rattle.dsde_cli_verdict.specs.Verdict
pub use Rattle.dsde_cli_verdict.specs.declared.refusal.ReadModel as refusal_ReadModel
pub use Rattle.dsde_cli_verdict.specs.declared.refusal.ReadModel.TheVariants as refusal_ReadModel_TheVariants
pub use Rattle.dsde_cli_verdict.specs.declared.refusal.Refusal as refusal_Refusal
