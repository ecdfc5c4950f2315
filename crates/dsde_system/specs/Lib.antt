pub mod Body
pub mod Program
pub mod Fitting
pub mod Plans
pub mod given
