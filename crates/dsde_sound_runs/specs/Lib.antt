pub mod Ends
pub mod given
