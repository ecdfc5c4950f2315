pub use Rattle.dsde_sim_moving.specs.given.sound_structures.Carrying
