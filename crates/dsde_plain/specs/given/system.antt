pub use Rattle.dsde_run.specs.given.system.Program
