pub mod Again
pub mod Each
pub mod Found
pub mod Keys
pub mod LastNames
pub mod Shallow
pub mod Values
pub mod Written
