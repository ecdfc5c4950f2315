pub use Rattle.dsde_core.specs.Standing
