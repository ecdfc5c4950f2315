pub use Rattle.dsde_bank.specs.declared.handle.Handle as handle_Handle
