pub use Rattle.dsde_image_rows.specs.given.system.Fitting
pub use Rattle.dsde_image_rows.specs.given.system.Program
