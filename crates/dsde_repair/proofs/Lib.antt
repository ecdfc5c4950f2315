pub mod Changing
pub mod Crossings
pub mod Fitted
pub mod Loops
pub mod Ordered
pub mod Passages
pub mod Thoroughfares
