pub mod Advances
pub mod ByParts
pub mod Components
pub mod Ordered
pub mod Seats
pub mod Walked
pub mod Within
pub mod Words
