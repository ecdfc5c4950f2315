pub use Rattle.dsde_sim_starting.specs.Asking
pub use Rattle.dsde_sim_starting.specs.Fitting
pub use Rattle.dsde_sim_starting.specs.Starting
pub use Rattle.dsde_sim_starting.specs.lemmas.Fits as lemmas_Fits
pub use Rattle.dsde_sim_starting.specs.lemmas.Roles as lemmas_Roles
pub use Rattle.dsde_sim_starting.specs.lemmas.Stood as lemmas_Stood
