pub use Rattle.dsde_sim_working.specs.Forward
pub use Rattle.dsde_sim_working.specs.Working
pub use Rattle.dsde_sim_working.specs.lemmas.Advancing as lemmas_Advancing
pub use Rattle.dsde_sim_working.specs.lemmas.Delivering as lemmas_Delivering
pub use Rattle.dsde_sim_working.specs.lemmas.Standing as lemmas_Standing
pub use Rattle.dsde_sim_working.specs.lemmas.Times as lemmas_Times
