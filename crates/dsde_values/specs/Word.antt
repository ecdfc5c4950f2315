-- A text that stands at the front of bytes, where no word goes on from it.
use Rattle.std.specs.Prelude.{ℕ, ◌≡◌, Bool, false, ◌&&◌, List, [], ◌∷◌, ◌++◌}
use Rattle.dsde_words.specs.Words.{is_word_byte, begins_word}

-- whether a letter, a digit or `_` stands last
abbrev pub ends_word : List ℕ → Bool
ends_word [] = false
ends_word (byte ∷ []) = is_word_byte byte
ends_word (byte ∷ bytes) = ends_word bytes

-- whether a word goes on from a text to what follows it
abbrev pub goes_on : List ℕ → List ℕ → Bool
goes_on text rest = ends_word text && begins_word rest

-- The text stands at the front of the bytes, and no word goes on from it.
pub record Begins (text bytes : List ℕ) : Type 0 where
  pub rest : List ℕ
  pub front : bytes ≡ text ++ rest
  pub ends : goes_on text rest ≡ false
