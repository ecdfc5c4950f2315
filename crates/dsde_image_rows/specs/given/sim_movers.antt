pub use Rattle.dsde_sim_movers.specs.Stands
