pub mod given
