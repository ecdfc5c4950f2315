pub mod Fits
pub mod Roles
pub mod Stood
