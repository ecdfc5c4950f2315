pub use Rattle.dsde_syntax.specs.given.words.Words
pub use Rattle.dsde_syntax.specs.given.words.key_Key
pub use Rattle.dsde_syntax.specs.given.words.key_Key_TheVariants
