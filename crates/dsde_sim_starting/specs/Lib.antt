pub mod Fitting
pub mod Asking
pub mod Starting
pub mod lemmas
pub mod given
