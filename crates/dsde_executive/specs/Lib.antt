pub mod Structure
pub mod given
