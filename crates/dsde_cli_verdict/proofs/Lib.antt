pub mod OffenceLemmas
pub mod VerdictLemmas
pub mod EachVerdict
