pub mod Gather
pub mod Survival
pub mod given
