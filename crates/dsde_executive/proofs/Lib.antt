pub mod Seeing
pub mod Planned
