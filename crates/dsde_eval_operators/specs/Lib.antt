pub mod Lends
pub mod Reckoning
