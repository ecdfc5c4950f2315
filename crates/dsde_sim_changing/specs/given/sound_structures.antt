pub use Rattle.dsde_sim_starting.specs.given.sound_structures.Carrying
