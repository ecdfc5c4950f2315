pub use Rattle.dsde_words.specs.Words
pub use Rattle.dsde_words.specs.declared.key.Key as key_Key
pub use Rattle.dsde_words.specs.declared.key.Key.TheVariants as key_Key_TheVariants
