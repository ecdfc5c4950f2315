-- What crates below declare, for those above: each file under the name of its crate.
pub mod formalism
pub mod language
pub mod sim_tree
pub mod structure
