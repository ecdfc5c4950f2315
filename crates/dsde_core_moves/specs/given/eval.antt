pub use Rattle.dsde_sim_changing.specs.given.eval.Translations
