pub use Rattle.dsde_formalism.specs.given.values_equality.Same
