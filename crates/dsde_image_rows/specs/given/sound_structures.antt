pub use Rattle.dsde_sound_structures.specs.Lawful
pub use Rattle.dsde_sound_structures.specs.Sure
