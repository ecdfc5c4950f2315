pub use Rattle.dsde_run.specs.given.core_engine.Standing
