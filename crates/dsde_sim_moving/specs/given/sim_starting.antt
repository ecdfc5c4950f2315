pub use Rattle.dsde_sim_changing.specs.given.sim_starting.Fitting
pub use Rattle.dsde_sim_changing.specs.given.sim_starting.lemmas_Fits
pub use Rattle.dsde_sim_changing.specs.given.sim_starting.lemmas_Stood
