pub mod Batch
pub mod Bank
pub mod Slots
