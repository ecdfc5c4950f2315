pub use Rattle.dsde_core_moves.specs.given.sim_moving.Fitting
