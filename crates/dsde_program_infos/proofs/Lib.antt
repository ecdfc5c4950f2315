pub mod Defs
pub mod Parts
