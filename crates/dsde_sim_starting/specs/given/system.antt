pub use Rattle.dsde_executive.specs.given.system.Body
pub use Rattle.dsde_executive.specs.given.system.Fitting
pub use Rattle.dsde_executive.specs.given.system.Plans
pub use Rattle.dsde_executive.specs.given.system.Program
