pub mod Order
pub mod Places
pub mod Source
pub mod Table
