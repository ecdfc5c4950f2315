pub use Rattle.dsde_executive.specs.given.sound_structures.Carrying
pub use Rattle.dsde_executive.specs.given.sound_structures.Lawful
pub use Rattle.dsde_executive.specs.given.sound_structures.Sure
pub use Rattle.dsde_executive.specs.given.sound_structures.lemmas_Steps
