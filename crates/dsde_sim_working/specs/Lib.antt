pub mod Forward
pub mod Working
pub mod lemmas
pub mod given
