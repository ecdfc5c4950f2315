pub mod Alone
pub mod Called
pub mod Filled
pub mod Rooting
pub mod Rows
pub mod given
