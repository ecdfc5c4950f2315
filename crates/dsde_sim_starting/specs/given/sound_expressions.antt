pub use Rattle.dsde_executive.specs.given.sound_expressions.Conditions
