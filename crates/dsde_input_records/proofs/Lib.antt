pub mod Fronts
pub mod Ints
pub mod Parts
pub mod Layers
pub mod Values
pub mod Ports
pub mod Lines
pub mod Orders
