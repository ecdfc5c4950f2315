pub mod Begins
pub mod Steps
pub mod Want
