pub mod Stop
pub mod Verdict
