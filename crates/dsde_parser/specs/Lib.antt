pub mod Depth
pub mod Refusal
