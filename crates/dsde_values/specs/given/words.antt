pub use Rattle.dsde_words.specs.Words
