pub use Rattle.dsde_names.specs.Table
