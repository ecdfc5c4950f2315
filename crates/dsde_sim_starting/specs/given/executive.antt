pub use Rattle.dsde_executive.specs.Structure
