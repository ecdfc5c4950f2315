pub use Rattle.dsde_sim_telling.specs.lemmas.GoingOn as lemmas_GoingOn
