pub use Rattle.dsde_routes_wiring.specs.Flatten
pub use Rattle.dsde_routes_wiring.specs.Sets
pub use Rattle.dsde_routes_wiring.specs.Wired
pub use Rattle.dsde_routes_wiring.specs.declared.row.Row as row_Row
pub use Rattle.dsde_routes_wiring.specs.declared.wiring.WiredKid.TheViews as wiring_WiredKid_TheViews
pub use Rattle.dsde_routes_wiring.specs.declared.wiring.Wiring as wiring_Wiring
