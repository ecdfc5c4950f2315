pub use Rattle.dsde_system.specs.Fitting
pub use Rattle.dsde_system.specs.Plans
pub use Rattle.dsde_system.specs.Program
