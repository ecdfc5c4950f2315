pub mod Grove
pub mod Part
pub mod Inside
