pub use Rattle.dsde_core_moving.specs.given.sim_moving.Fitting
