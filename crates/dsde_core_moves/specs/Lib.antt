pub mod Chosen
pub mod Compared
pub mod Flat
pub mod Moved
pub mod Movers
pub mod Resting
pub mod lemmas
pub mod given
