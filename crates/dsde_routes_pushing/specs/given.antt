-- What crates below declare, for those above: each file under the name of its crate.
pub mod sim_movers
pub mod structure
