pub use Rattle.dsde_sim_starting.specs.Fitting
pub use Rattle.dsde_sim_starting.specs.lemmas.Fits as lemmas_Fits
pub use Rattle.dsde_sim_starting.specs.lemmas.Stood as lemmas_Stood
