-- What crates below declare, for those above: each file under the name of its crate.
pub mod core_flat
pub mod core_moves
pub mod routes_pushing
pub mod routes_wiring
