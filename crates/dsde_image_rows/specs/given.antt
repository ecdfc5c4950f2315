-- What crates below declare, for those above: each file under the name of its crate.
pub mod sim_movers
pub mod sim_telling
pub mod sound_expressions
pub mod sound_structures
pub mod system
