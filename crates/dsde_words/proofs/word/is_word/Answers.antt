use Rattle.std.proofs.Common.{ℕ, ◌≡◌, ◌<◌, Bool, false, ◌&&◌, not, List, [], ◌∷◌, length, get_or, sym, ap, ◌∙◌, rules, tests, arith}
use Rattle.std.specs.Char.{is_ascii_digit}
use Rattle.std.specs.List.{list_all}
use Rattle.std.proofs.lemmas.Iterator.{YieldsList-from_slice}
use Rattle.std.proofs.lemmas.Iterator.Search.{all_from_yields_List}
use Rattle.dsde_words.specs.Words.{is_word_byte, is_word}
use Rattle.dsde_words.proofs.word.is_word.Goals as goal

is_word-rest : (text : List ℕ) (rest : Bool) → 0 < length text → is_ascii_digit (get_or text 0 0) ≡ false → rest ≡ list_all is_word_byte text → rest ≡ is_word text
is_word-rest [] rest some letter same = absurd (omega arith)
is_word-rest (byte ∷ text) rest some letter same = same ∙ ap (λ digit. not digit && list_all is_word_byte (byte ∷ text)) (sym letter)

pub returns-then-not-is_ascii_digit : goal.returns-then-not-is_ascii_digit
returns-then-not-is_ascii_digit c =
    is_word-rest c.args.text.now c.all.result c.in-len1-up.len_at_least
    (sym c.is_ascii_digit.ensures.value ∙ c.if-not-is_ascii_digit.true)
    (all_from_yields_List is_word_byte _ _ _ c.all.ensures.ran (YieldsList-from_slice c.args.text.now c.iter.ensures.rest) (λ x b q k. search (rules, tests)))
