pub mod Bounds
pub mod Found
pub mod Places
pub mod Walks
pub mod Weights
pub mod given
