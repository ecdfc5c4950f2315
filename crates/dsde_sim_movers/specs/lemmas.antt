-- Lemmas that the crates above cite.
pub mod Asking
pub mod Beneath
pub mod Events
pub mod Lenses
pub mod Named
pub mod Opened
pub mod Opens
pub mod Seats
pub mod Spotting
pub mod Standing
pub mod Steps
