pub mod Grammar
pub mod Levels
pub mod Places
pub mod Print
pub mod Shape
pub mod Spelling
pub mod Writing
pub mod given
