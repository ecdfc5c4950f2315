pub use Rattle.dsde_eval_tables.specs.Evaluating
