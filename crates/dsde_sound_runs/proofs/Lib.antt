pub mod Relied
pub mod Safe
pub mod Ports
pub mod Opens
mod Leaves
pub mod Starting
mod Changing
pub mod Sending
pub mod Moving
mod Times
pub mod Turning
pub mod Running
mod Arriving
mod Fitting
