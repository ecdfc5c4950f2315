pub use Rattle.dsde_sim_working.specs.given.system.Program
