-- What crates below declare, for those above: each file under the name of its crate.
pub mod run_meaning
pub mod sim_starting
pub mod system
