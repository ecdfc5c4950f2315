pub mod Comprehensions
pub mod Forms
pub mod Growth
pub mod Loops
pub mod Nodes
pub mod Parts
pub mod Rooms
