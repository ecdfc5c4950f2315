pub use Rattle.dsde_sim_gathering.specs.given.eval.Translations
