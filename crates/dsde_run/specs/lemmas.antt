-- Lemmas that the crates above cite.
pub mod Beginning
pub mod Steps
