-- What crates below declare, for those above: each file under the name of its crate.
pub mod core_engine
pub mod image_rows
pub mod order
pub mod run
pub mod sim_working
