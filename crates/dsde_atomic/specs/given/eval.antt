pub use Rattle.dsde_eval.specs.Translations
