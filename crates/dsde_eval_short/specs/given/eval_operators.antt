pub use Rattle.dsde_eval_operators.specs.Lends
pub use Rattle.dsde_eval_operators.specs.Reckoning
