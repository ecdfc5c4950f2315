pub use Rattle.dsde_grove.specs.Grove
