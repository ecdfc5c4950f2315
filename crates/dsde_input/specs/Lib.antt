pub mod Reader
pub mod Skipped
pub mod Skipping
pub mod lemmas
pub mod given
