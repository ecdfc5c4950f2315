pub use Rattle.dsde_input_records.specs.Reading
