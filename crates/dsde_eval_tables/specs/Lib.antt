pub mod Spots
pub mod Evaluating
pub mod Passing
