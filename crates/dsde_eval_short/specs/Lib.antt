pub mod Changes
pub mod given
