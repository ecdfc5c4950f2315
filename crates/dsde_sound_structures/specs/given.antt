-- What crates below declare, for those above: each file under the name of its crate.
pub mod executive_plans
pub mod formalism
pub mod input_records
pub mod sound_expressions
pub mod sound_names
pub mod system
