pub use Rattle.dsde_sim_changing.specs.given.sim_gathering.Boxes
pub use Rattle.dsde_sim_changing.specs.given.sim_gathering.Passing
