pub mod Behind
pub mod Lacking
pub mod Pairing
pub mod Searching
