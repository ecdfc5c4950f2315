pub mod Advancing
pub mod Delivering
pub mod Receiving
pub mod Standing
pub mod Times
