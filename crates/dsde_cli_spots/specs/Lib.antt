pub mod Placed
pub mod Spotted
pub mod SpottedRuns
