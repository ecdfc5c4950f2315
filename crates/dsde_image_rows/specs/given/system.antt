pub use Rattle.dsde_sound_structures.specs.given.system.Fitting
pub use Rattle.dsde_sound_structures.specs.given.system.Plans
pub use Rattle.dsde_sound_structures.specs.given.system.Program
