pub mod Entering
pub mod Opened
