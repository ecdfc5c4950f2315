pub use Rattle.dsde_sim_starting.specs.given.sim_telling.lemmas_GoingOn
