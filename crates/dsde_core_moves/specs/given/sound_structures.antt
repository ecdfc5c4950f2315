pub use Rattle.dsde_sim_changing.specs.given.sound_structures.Carrying
