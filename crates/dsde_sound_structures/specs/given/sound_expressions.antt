pub use Rattle.dsde_sound_names.specs.given.sound_expressions.Bodies
pub use Rattle.dsde_sound_names.specs.given.sound_expressions.Coded
pub use Rattle.dsde_sound_names.specs.given.sound_expressions.Conditions
pub use Rattle.dsde_sound_names.specs.given.sound_expressions.Structures
