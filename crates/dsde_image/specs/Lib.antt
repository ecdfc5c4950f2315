pub mod Form
pub mod Image
pub mod Json
pub mod Members
pub mod Text
pub mod Written
