pub mod Asks
pub mod Made
pub mod Going
pub mod Sending
