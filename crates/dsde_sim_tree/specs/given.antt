-- What crates below declare, for those above: each file under the name of its crate.
pub mod formalism
pub mod language
pub mod names
pub mod structure
pub mod syntax
pub mod values_equality
