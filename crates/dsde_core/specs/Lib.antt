pub mod Live
pub mod Paid
pub mod Standing
pub mod Turned
pub mod given
