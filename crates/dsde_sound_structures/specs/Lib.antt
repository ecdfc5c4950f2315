pub mod Agreement
pub mod Carrying
pub mod Lawful
pub mod Numbers
pub mod Spots
pub mod Sure
pub mod lemmas
pub mod given
