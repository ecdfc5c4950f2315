-- Lemmas that the crates above cite.
pub mod Opens
pub mod Lists
pub mod Ascending
pub mod Handles
pub mod Wires
