pub mod Fronts
pub mod Later
