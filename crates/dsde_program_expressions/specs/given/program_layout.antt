pub use Rattle.dsde_program_layout.specs.Declared
pub use Rattle.dsde_program_layout.specs.Lay
pub use Rattle.dsde_program_layout.specs.LayItems
pub use Rattle.dsde_program_layout.specs.LayModels
pub use Rattle.dsde_program_layout.specs.LayPieces
pub use Rattle.dsde_program_layout.specs.LayStatements
