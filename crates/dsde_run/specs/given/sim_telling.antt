pub use Rattle.dsde_image_rows.specs.given.sim_telling.lemmas_GoingOn
