pub use Rattle.dsde_sim_starting.specs.given.executive.Structure
