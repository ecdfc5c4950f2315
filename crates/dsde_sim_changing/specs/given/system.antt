pub use Rattle.dsde_sim_starting.specs.given.system.Fitting
pub use Rattle.dsde_sim_starting.specs.given.system.Plans
pub use Rattle.dsde_sim_starting.specs.given.system.Program
