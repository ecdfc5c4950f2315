pub use Rattle.dsde_routes_table.specs.Order
