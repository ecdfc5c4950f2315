pub use Rattle.dsde_image_rows.specs.Plain
pub use Rattle.dsde_image_rows.specs.Walk
