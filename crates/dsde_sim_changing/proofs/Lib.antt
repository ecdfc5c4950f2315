pub mod Orders
pub mod Walking
pub mod Keeping
pub mod Choosing
pub mod Refilling
