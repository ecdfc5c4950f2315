-- What crates below declare, for those above: each file under the name of its crate.
pub mod eval_tables
pub mod executive_plans
pub mod structure
