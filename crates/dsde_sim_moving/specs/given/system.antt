pub use Rattle.dsde_sim_changing.specs.given.system.Fitting
pub use Rattle.dsde_sim_changing.specs.given.system.Program
