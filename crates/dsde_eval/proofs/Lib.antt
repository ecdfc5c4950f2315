pub mod Typing
pub mod Exprs
pub mod Blocks
pub mod Vias
