pub mod Entries
pub mod Few
pub mod Drawing
pub mod given
