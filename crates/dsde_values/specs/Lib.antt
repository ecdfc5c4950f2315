pub mod Path
pub mod Reading
pub mod Value
pub mod When
pub mod Word
pub mod given
