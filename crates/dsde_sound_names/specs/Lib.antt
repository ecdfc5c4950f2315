pub mod Called
pub mod given
