pub mod Ending
pub mod Lines
pub mod Modelling
pub mod Naming
pub mod Telling
