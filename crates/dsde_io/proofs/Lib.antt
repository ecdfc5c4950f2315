pub mod UnderNames
pub mod Gained
pub mod Taken
