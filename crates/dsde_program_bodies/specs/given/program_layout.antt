pub use Rattle.dsde_program_expressions.specs.given.program_layout.Declared
pub use Rattle.dsde_program_expressions.specs.given.program_layout.LayItems
pub use Rattle.dsde_program_expressions.specs.given.program_layout.LayModels
pub use Rattle.dsde_program_expressions.specs.given.program_layout.LayPieces
pub use Rattle.dsde_program_expressions.specs.given.program_layout.LayStatements
