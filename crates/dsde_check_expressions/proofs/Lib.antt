pub mod Chains
pub mod Falls
pub mod Fits
pub mod Folds
pub mod Order
