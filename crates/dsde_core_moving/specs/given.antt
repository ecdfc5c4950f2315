-- What crates below declare, for those above: each file under the name of its crate.
pub mod core_flat
pub mod core_moves
pub mod sim_movers
pub mod sim_moving
pub mod sim_starting
pub mod sim_telling
