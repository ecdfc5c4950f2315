pub mod Note
pub mod given
