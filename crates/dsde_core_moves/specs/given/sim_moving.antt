pub use Rattle.dsde_sim_moving.specs.Fitting
