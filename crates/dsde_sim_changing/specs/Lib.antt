pub mod Heads
pub mod Survivors
pub mod given
