-- What crates below declare, for those above: each file under the name of its crate.
pub mod bank
pub mod structure
pub mod values_equality
