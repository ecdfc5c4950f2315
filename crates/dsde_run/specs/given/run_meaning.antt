pub use Rattle.dsde_run_meaning.specs.Run
