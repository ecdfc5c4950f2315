pub use Rattle.dsde_routes_wiring.specs.given.structure.Gather
pub use Rattle.dsde_routes_wiring.specs.given.structure.plan_Link
pub use Rattle.dsde_routes_wiring.specs.given.structure.plan_Part_TheVariants
pub use Rattle.dsde_routes_wiring.specs.given.structure.sources_Given
pub use Rattle.dsde_routes_wiring.specs.given.structure.sources_Sources
