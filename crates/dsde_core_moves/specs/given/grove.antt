pub use Rattle.dsde_core_flat.specs.given.grove.Grove
