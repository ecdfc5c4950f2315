pub use Rattle.dsde_language.specs.given.names.Table
