-- What crates below declare, for those above: each file under the name of its crate.
pub mod eval
pub mod executive
pub mod sim_gathering
pub mod sim_starting
pub mod sim_telling
pub mod sound_expressions
pub mod sound_structures
pub mod system
