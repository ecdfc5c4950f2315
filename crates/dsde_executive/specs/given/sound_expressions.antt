pub use Rattle.dsde_sound_structures.specs.given.sound_expressions.Conditions
