pub mod Ports
pub mod Passing
pub mod Sents
pub mod Sending
pub mod Putting
