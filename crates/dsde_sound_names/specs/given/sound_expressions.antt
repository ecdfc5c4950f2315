pub use Rattle.dsde_sound_expressions.specs.Bodies
pub use Rattle.dsde_sound_expressions.specs.Coded
pub use Rattle.dsde_sound_expressions.specs.Conditions
pub use Rattle.dsde_sound_expressions.specs.Items
pub use Rattle.dsde_sound_expressions.specs.Laws
pub use Rattle.dsde_sound_expressions.specs.Places
pub use Rattle.dsde_sound_expressions.specs.Structures
pub use Rattle.dsde_sound_expressions.specs.lemmas.Fitting as lemmas_Fitting
pub use Rattle.dsde_sound_expressions.specs.lemmas.Outcomes as lemmas_Outcomes
pub use Rattle.dsde_sound_expressions.specs.lemmas.Places as lemmas_Places
pub use Rattle.dsde_sound_expressions.specs.lemmas.Seeing as lemmas_Seeing
pub use Rattle.dsde_sound_expressions.specs.lemmas.Standing as lemmas_Standing
pub use Rattle.dsde_sound_expressions.specs.lemmas.Steps as lemmas_Steps
pub use Rattle.dsde_sound_expressions.specs.lemmas.Truths as lemmas_Truths
pub use Rattle.dsde_sound_expressions.specs.lemmas.Types as lemmas_Types
pub use Rattle.dsde_sound_expressions.specs.lemmas.Values as lemmas_Values
