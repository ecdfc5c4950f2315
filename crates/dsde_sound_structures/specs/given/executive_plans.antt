pub use Rattle.dsde_sound_names.specs.given.executive_plans.Layout
