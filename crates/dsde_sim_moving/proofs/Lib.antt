pub mod Opens
pub mod Gathering
pub mod Made
pub mod Goes
pub mod Turns
