pub use Rattle.dsde_sim_starting.specs.given.eval.Translations
