-- What crates below declare, for those above: each file under the name of its crate.
pub mod faults
pub mod language
pub mod syntax
pub mod values_equality
