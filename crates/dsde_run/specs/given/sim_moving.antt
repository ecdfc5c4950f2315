pub use Rattle.dsde_core.specs.given.sim_moving.Fitting
