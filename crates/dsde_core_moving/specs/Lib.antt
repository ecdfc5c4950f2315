pub mod Changed
pub mod Executive
pub mod Moving
pub mod Placed
pub mod Restructured
pub mod given
