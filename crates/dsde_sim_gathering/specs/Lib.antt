pub mod Boxes
pub mod Passing
pub mod given
