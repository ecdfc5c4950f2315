pub mod Layout
pub mod Drafts
pub mod lemmas
pub mod given
