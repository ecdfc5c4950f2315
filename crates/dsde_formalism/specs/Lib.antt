pub mod System
pub mod Leaf
pub mod given
