pub mod Branches
pub mod Loops
pub mod Opened
