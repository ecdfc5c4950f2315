pub use Rattle.dsde_values_equality.specs.Same
