pub use Rattle.dsde_structure.specs.given.values_equality.Same
