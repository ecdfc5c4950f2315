pub use Rattle.dsde_repair_walks.specs.given.routes_table.Order
