pub use Rattle.dsde_sound_expressions.specs.Laws
