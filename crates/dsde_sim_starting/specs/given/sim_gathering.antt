pub use Rattle.dsde_sim_gathering.specs.Boxes
pub use Rattle.dsde_sim_gathering.specs.Passing
