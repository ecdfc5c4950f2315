pub use Rattle.dsde_sound_structures.specs.Carrying
pub use Rattle.dsde_sound_structures.specs.Lawful
pub use Rattle.dsde_sound_structures.specs.Sure
pub use Rattle.dsde_sound_structures.specs.lemmas.Steps as lemmas_Steps
