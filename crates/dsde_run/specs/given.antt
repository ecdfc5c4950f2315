-- What crates below declare, for those above: each file under the name of its crate.
pub mod core_engine
pub mod image_rows
pub mod run_meaning
pub mod sim_moving
pub mod sim_telling
pub mod sim_working
pub mod system
