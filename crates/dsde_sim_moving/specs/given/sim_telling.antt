pub use Rattle.dsde_sim_changing.specs.given.sim_telling.lemmas_GoingOn
