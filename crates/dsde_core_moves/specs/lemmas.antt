-- Lemmas that the crates above cite.
pub mod Meets
pub mod Seen
