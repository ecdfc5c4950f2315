pub mod Ordered
pub mod Edits
pub mod Tables
pub mod Putting
pub mod Looking
