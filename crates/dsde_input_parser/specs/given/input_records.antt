pub use Rattle.dsde_input_records.specs.Lines
pub use Rattle.dsde_input_records.specs.Record
pub use Rattle.dsde_input_records.specs.Records
pub use Rattle.dsde_input_records.specs.declared.end.InputEnd as end_InputEnd
pub use Rattle.dsde_input_records.specs.declared.end.InputEnd.TheVariants as end_InputEnd_TheVariants
