-- What crates below declare, for those above: each file under the name of its crate.
pub mod core_flat
pub mod eval
pub mod grove
pub mod routes_table
pub mod sim_gathering
pub mod sim_moving
pub mod sim_starting
pub mod sound_expressions
pub mod sound_structures
pub mod system
