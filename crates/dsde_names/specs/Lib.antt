pub mod Alike
pub mod Table
