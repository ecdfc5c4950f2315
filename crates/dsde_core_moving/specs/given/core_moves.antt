pub use Rattle.dsde_core_moves.specs.Flat
pub use Rattle.dsde_core_moves.specs.Movers
pub use Rattle.dsde_core_moves.specs.Resting
pub use Rattle.dsde_core_moves.specs.declared.flat.Flat as flat_Flat
pub use Rattle.dsde_core_moves.specs.declared.flat.Mover as flat_Mover
pub use Rattle.dsde_core_moves.specs.declared.phase.Sent as phase_Sent
pub use Rattle.dsde_core_moves.specs.declared.phase.Sent.TheVariants as phase_Sent_TheVariants
