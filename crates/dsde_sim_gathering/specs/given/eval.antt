pub use Rattle.dsde_atomic.specs.given.eval.Translations
