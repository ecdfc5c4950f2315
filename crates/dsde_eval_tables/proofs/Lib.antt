pub mod Assigning
pub mod Depths
pub mod Reckoning
pub mod Standing
pub mod Steps
