pub use Rattle.dsde_sim_moving.specs.given.sim_gathering.Boxes
