pub mod Count
pub mod Pick
pub mod Text
pub mod given
