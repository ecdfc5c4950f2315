pub use Rattle.dsde_sound_names.specs.Called
