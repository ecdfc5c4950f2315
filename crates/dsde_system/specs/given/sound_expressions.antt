pub use Rattle.dsde_sound_expressions.specs.Bodies
pub use Rattle.dsde_sound_expressions.specs.Conditions
pub use Rattle.dsde_sound_expressions.specs.Laws
pub use Rattle.dsde_sound_expressions.specs.Places
pub use Rattle.dsde_sound_expressions.specs.lemmas.Outcomes as lemmas_Outcomes
pub use Rattle.dsde_sound_expressions.specs.lemmas.Values as lemmas_Values
