pub use Rattle.dsde_sim_movers.specs.Asking
pub use Rattle.dsde_sim_movers.specs.Deliveries
pub use Rattle.dsde_sim_movers.specs.Found
pub use Rattle.dsde_sim_movers.specs.Movers
pub use Rattle.dsde_sim_movers.specs.Names
pub use Rattle.dsde_sim_movers.specs.Parts
pub use Rattle.dsde_sim_movers.specs.Places
pub use Rattle.dsde_sim_movers.specs.Turns
pub use Rattle.dsde_sim_movers.specs.lemmas.Named as lemmas_Named
pub use Rattle.dsde_sim_movers.specs.lemmas.Opens as lemmas_Opens
pub use Rattle.dsde_sim_movers.specs.lemmas.Seats as lemmas_Seats
pub use Rattle.dsde_sim_movers.specs.lemmas.Spotting as lemmas_Spotting
