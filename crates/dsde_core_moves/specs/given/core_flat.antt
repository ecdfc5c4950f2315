pub use Rattle.dsde_core_flat.specs.Change
pub use Rattle.dsde_core_flat.specs.Due
pub use Rattle.dsde_core_flat.specs.Grafts
pub use Rattle.dsde_core_flat.specs.Handles
pub use Rattle.dsde_core_flat.specs.Named
pub use Rattle.dsde_core_flat.specs.Places
pub use Rattle.dsde_core_flat.specs.Scheduled
pub use Rattle.dsde_core_flat.specs.Shown
pub use Rattle.dsde_core_flat.specs.Stands
pub use Rattle.dsde_core_flat.specs.declared.due.Due as due_Due
pub use Rattle.dsde_core_flat.specs.declared.spot.Spot as spot_Spot
pub use Rattle.dsde_core_flat.specs.declared.spot.Spot.TheVariants as spot_Spot_TheVariants
pub use Rattle.dsde_core_flat.specs.lemmas.Apart as lemmas_Apart
pub use Rattle.dsde_core_flat.specs.lemmas.Beneath as lemmas_Beneath
pub use Rattle.dsde_core_flat.specs.lemmas.Called as lemmas_Called
pub use Rattle.dsde_core_flat.specs.lemmas.Closing as lemmas_Closing
pub use Rattle.dsde_core_flat.specs.lemmas.Component as lemmas_Component
pub use Rattle.dsde_core_flat.specs.lemmas.Context as lemmas_Context
pub use Rattle.dsde_core_flat.specs.lemmas.Counting as lemmas_Counting
pub use Rattle.dsde_core_flat.specs.lemmas.Executive as lemmas_Executive
pub use Rattle.dsde_core_flat.specs.lemmas.Fitting as lemmas_Fitting
pub use Rattle.dsde_core_flat.specs.lemmas.Frame as lemmas_Frame
pub use Rattle.dsde_core_flat.specs.lemmas.Grafting as lemmas_Grafting
pub use Rattle.dsde_core_flat.specs.lemmas.Groves as lemmas_Groves
pub use Rattle.dsde_core_flat.specs.lemmas.Growing as lemmas_Growing
pub use Rattle.dsde_core_flat.specs.lemmas.Inside as lemmas_Inside
pub use Rattle.dsde_core_flat.specs.lemmas.Keeping as lemmas_Keeping
pub use Rattle.dsde_core_flat.specs.lemmas.Live as lemmas_Live
pub use Rattle.dsde_core_flat.specs.lemmas.Meeting as lemmas_Meeting
pub use Rattle.dsde_core_flat.specs.lemmas.Mixing as lemmas_Mixing
pub use Rattle.dsde_core_flat.specs.lemmas.Moves as lemmas_Moves
pub use Rattle.dsde_core_flat.specs.lemmas.Names as lemmas_Names
pub use Rattle.dsde_core_flat.specs.lemmas.Opened as lemmas_Opened
pub use Rattle.dsde_core_flat.specs.lemmas.Waiting as lemmas_Waiting
