pub use Rattle.dsde_input_parser.specs.lemmas.Cuts as lemmas_Cuts
