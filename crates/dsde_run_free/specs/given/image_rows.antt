pub use Rattle.dsde_run.specs.given.image_rows.Plain
pub use Rattle.dsde_run.specs.given.image_rows.Walk
