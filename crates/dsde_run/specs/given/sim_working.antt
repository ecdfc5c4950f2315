pub use Rattle.dsde_core.specs.given.sim_working.Working
pub use Rattle.dsde_core.specs.given.sim_working.lemmas_Advancing
pub use Rattle.dsde_core.specs.given.sim_working.lemmas_Delivering
pub use Rattle.dsde_core.specs.given.sim_working.lemmas_Standing
pub use Rattle.dsde_core.specs.given.sim_working.lemmas_Times
