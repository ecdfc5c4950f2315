pub use Rattle.dsde_sim_movers.specs.Asking
pub use Rattle.dsde_sim_movers.specs.Deliveries
pub use Rattle.dsde_sim_movers.specs.Movers
pub use Rattle.dsde_sim_movers.specs.Places
pub use Rattle.dsde_sim_movers.specs.Turns
pub use Rattle.dsde_sim_movers.specs.Walk
