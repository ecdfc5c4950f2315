pub use Rattle.dsde_run.specs.given.sim_working.Working
