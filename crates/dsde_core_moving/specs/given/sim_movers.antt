pub use Rattle.dsde_sim_movers.specs.Delivered
pub use Rattle.dsde_sim_movers.specs.Deliveries
pub use Rattle.dsde_sim_movers.specs.Movers
pub use Rattle.dsde_sim_movers.specs.Names
pub use Rattle.dsde_sim_movers.specs.Places
pub use Rattle.dsde_sim_movers.specs.Stands
pub use Rattle.dsde_sim_movers.specs.Turns
pub use Rattle.dsde_sim_movers.specs.Work
