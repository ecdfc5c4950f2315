pub mod Drawn
pub mod Free
pub mod given
