pub mod Counting
pub mod Reckoning
pub mod Same
