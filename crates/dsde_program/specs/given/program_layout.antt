pub use Rattle.dsde_program_bodies.specs.given.program_layout.Declared
