pub use Rattle.dsde_sim_starting.specs.given.sim_gathering.Boxes
pub use Rattle.dsde_sim_starting.specs.given.sim_gathering.Passing
