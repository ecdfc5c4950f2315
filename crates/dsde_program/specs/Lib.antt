pub mod Behind
pub mod Whole
pub mod given
