pub mod Declared
pub mod LaidIs
pub mod Lay
pub mod LayItems
pub mod LayModels
pub mod LayPieces
pub mod LayStatements
