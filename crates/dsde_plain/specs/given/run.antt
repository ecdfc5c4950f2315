pub use Rattle.dsde_run.specs.lemmas.Beginning as lemmas_Beginning
