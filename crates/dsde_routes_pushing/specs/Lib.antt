pub mod Carried
pub mod Fitting
pub mod Pushed
pub mod Wire
pub mod lemmas
pub mod given
