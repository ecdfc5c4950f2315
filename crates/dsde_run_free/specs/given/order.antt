pub use Rattle.dsde_order.specs.Free
