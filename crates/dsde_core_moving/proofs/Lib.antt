mod Again
mod Closing
mod Ending
pub mod Fitting
mod Follows
mod Going
mod Handles
mod Held
mod Moved
pub mod Names
pub mod Needed
mod Opening
mod Owning
pub mod Permuted
mod Permuting
mod Places
mod Priced
pub mod Room
mod Seating
mod Spared
pub mod Started
pub mod Staying
mod Stepped
mod Stepping
pub mod Taking
pub mod Whole
mod Working
