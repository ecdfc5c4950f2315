pub use Rattle.dsde_trace.specs.Pick
pub use Rattle.dsde_trace.specs.declared.pick.Pick as pick_Pick
pub use Rattle.dsde_trace.specs.declared.pick.Pick.TheVariants as pick_Pick_TheVariants
