pub use Rattle.dsde_sim_changing.specs.given.system.Fitting
pub use Rattle.dsde_sim_changing.specs.given.system.Plans
pub use Rattle.dsde_sim_changing.specs.given.system.Program
