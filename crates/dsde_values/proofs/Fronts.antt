-- Texts and words at the front of bytes.
use Rattle.std.proofs.Common.{◌≡◌, ◌≢◌, ℕ, ◌+◌, Bool, true, false, ◌&&◌, ℤ, List, [], ◌∷◌, ◌++◌, length, take, drop, refl, sym, ◌∙◌, ap, append_assoc, FitsSigned}
use Rattle.std.specs.Int.{w64}
use Rattle.std.specs.Fmt.{signed_decimal}
use Rattle.std.specs.List.{list_all, take_while, prefix_len}
use Rattle.std.proofs.Common.{cond}
use Rattle.std.specs.Str.{bytes_eq}
use Rattle.std.proofs.lemmas.Bool.{false≢true}
use Rattle.std.proofs.lemmas.List.{take-append-drop, append_cancel_left}
use Rattle.std.proofs.lemmas.List.Folds.{length-prefix_len}
use Rattle.std.proofs.lemmas.Slice.Eq.{bytes_eq-Decides}
use Rattle.std.proofs.Math.Numerals.{one-add}
use Rattle.std.proofs.Math.Seq.{take-append_seam, drop-append_seam}
use Rattle.dsde_words.specs.Words.{is_word_byte, begins_word}
use Rattle.dsde_values.specs.Word.{ends_word, goes_on, Begins}
use Rattle.dsde_values.specs.Reading.{Takes, Took, Lacks, NoWord, truth_text}
use Rattle.std.specs.Prelude.{MatchBool}
use Rattle.dsde_values.proofs.Names.{take_while-word}
use Rattle.dsde_values.proofs.Numbers.{begins_word-behind}

-- a text that stands at the front, and one that does not
pub front_taken : (text bytes left : List ℕ) → bytes_eq (take (length text) bytes) text ≡ true → left ≡ drop (length text) bytes → bytes ≡ text ++ left
front_taken text bytes left same behind =
    sym (take-append-drop (length text) bytes)
    ∙ ap (λ (front : List ℕ). front ++ drop (length text) bytes) ((bytes_eq-Decides (take (length text) bytes) text).0 same)
    ∙ ap (λ (rest : List ℕ). text ++ rest) (sym behind)

pub front_missing : (text bytes : List ℕ) → bytes_eq (take (length text) bytes) text ≡ false → (rest : List ℕ) → bytes ≢ text ++ rest
front_missing text bytes other rest same =
    let found : take (length text) bytes ≡ text = ap (take (length text)) same ∙ take-append_seam text rest in
    false≢true (sym other ∙ (bytes_eq-Decides (take (length text) bytes) text).1 found)

and_true : (one other : Bool) → one ≡ true → other ≡ true → (one && other) ≡ true
and_true one other e f = rw (e, f) refl

pub and_false : (one other : Bool) → other ≡ false → (one && other) ≡ false
and_false true other none = none
and_false false other none = refl

front_word : (here : Bool) (byte : ℕ) (bytes : List ℕ) → here ≡ is_word_byte byte → list_all is_word_byte (take (prefix_len is_word_byte bytes) bytes) ≡ true → list_all is_word_byte (take (cond here (1 + prefix_len is_word_byte bytes) 0) (byte ∷ bytes)) ≡ true
front_word true byte bytes is all = rw one-add (and_true (is_word_byte byte) _ (sym is) all)
front_word false byte bytes is all = refl

prefix_word : (bytes : List ℕ) → list_all is_word_byte (take (prefix_len is_word_byte bytes) bytes) ≡ true
prefix_word [] = refl
prefix_word (byte ∷ bytes) = front_word (is_word_byte byte) byte bytes refl (prefix_word bytes)

-- the longest word at the front, and what is behind it
pub word_all : (bytes word : List ℕ) (size : ℕ) → size ≡ length (take_while is_word_byte bytes) → word ≡ take size bytes → list_all is_word_byte word ≡ true
word_all bytes word size is front =
    ap (list_all is_word_byte) (front ∙ ap (λ (n : ℕ). take n bytes) (is ∙ length-prefix_len is_word_byte bytes)) ∙ prefix_word bytes

pub word_end : (bytes left : List ℕ) (size : ℕ) → size ≡ length (take_while is_word_byte bytes) → left ≡ drop size bytes → begins_word left ≡ false
word_end bytes left size is behind =
    ap begins_word (behind ∙ ap (λ (n : ℕ). drop n bytes) (is ∙ length-prefix_len is_word_byte bytes)) ∙ begins_word-behind bytes

-- Two words, and then no word, are one.
pub word_same : (word left other rest : List ℕ) → list_all is_word_byte word ≡ true → begins_word left ≡ false → list_all is_word_byte other ≡ true → begins_word rest ≡ false → word ++ left ≡ other ++ rest → other ≡ word
word_same word left other rest is end are stop same =
    sym (take_while-word other rest are stop) ∙ ap (take_while is_word_byte) (sym same) ∙ take_while-word word left is end

-- where a text ends in a word, no word follows it
pub stops : (text rest : List ℕ) → ends_word text ≡ true → goes_on text rest ≡ false → begins_word rest ≡ false
stops text rest ends none = rw ends at none

pub truth_word : (truth : Bool) → list_all is_word_byte (truth_text truth) ≡ true
truth_word true = refl
truth_word false = refl

pub truth_ends : (truth : Bool) → ends_word (truth_text truth) ≡ true
truth_ends true = refl
truth_ends false = refl

-- the word that a truth is written as
pub its_truth : (word left bytes : List ℕ) → bytes ≡ word ++ left → list_all is_word_byte word ≡ true → begins_word left ≡ false →
    (truth : Bool) (rest : List ℕ) → NoWord truth_text truth rest → bytes ≡ truth_text truth ++ rest → truth_text truth ≡ word
its_truth word left bytes front is end truth rest none same =
    word_same word left (truth_text truth) rest is end (truth_word truth) (stops (truth_text truth) rest (truth_ends truth) none) (sym front ∙ same)

truth_one : (truth other : Bool) → truth_text truth ≡ truth_text other → truth ≡ other
truth_one true true e = refl
truth_one true false e = absurd (cc)
truth_one false true e = absurd (cc)
truth_one false false e = refl

pub truth_taken : (word left bytes : List ℕ) (truth : Bool) → bytes ≡ word ++ left → list_all is_word_byte word ≡ true → begins_word left ≡ false → word ≡ truth_text truth → Took {X = Bool} (λ _. Unit {0}) truth_text (NoWord truth_text) bytes truth left
truth_taken word left bytes truth front is end own = record {
  is = tt;
  front = front ∙ ap (λ (text : List ℕ). text ++ left) own;
  ends = and_false (ends_word (truth_text truth)) (begins_word left) end;
  only = λ other rest _ none same. truth_one other truth (its_truth word left bytes front is end other rest none same ∙ own);
}

pub no_truth : (word left bytes : List ℕ) → bytes ≡ word ++ left → list_all is_word_byte word ≡ true → begins_word left ≡ false → word ≢ truth_text true → word ≢ truth_text false → Lacks {X = Bool} (λ _. Unit {0}) truth_text (NoWord truth_text) bytes
no_truth word left bytes front is end not_true not_false true rest _ none same = not_true (sym (its_truth word left bytes front is end true rest none same))
no_truth word left bytes front is end not_true not_false false rest _ none same = not_false (sym (its_truth word left bytes front is end false rest none same))

-- a number that begins the bytes
pub number_taken : (bytes left : List ℕ) (number : ℤ) (size : ℕ) → FitsSigned w64 number → (begins : Begins (signed_decimal number) bytes) → size ≡ length (signed_decimal number) → left ≡ drop size bytes →
    ((other : ℤ) → FitsSigned w64 other → Begins (signed_decimal other) bytes → other ≡ number) → Took (FitsSigned w64) signed_decimal (NoWord signed_decimal) bytes number left
number_taken bytes left number size fits begins length_is behind only =
    let rest : left ≡ begins.rest =
    behind ∙ ap (λ (n : ℕ). drop n bytes) length_is ∙ ap (drop (length (signed_decimal number))) begins.front ∙ drop-append_seam (signed_decimal number) begins.rest in
    record {
      is = fits;
      front = begins.front ∙ ap (λ (tail : List ℕ). signed_decimal number ++ tail) (sym rest);
      ends = ap (goes_on (signed_decimal number)) rest ∙ begins.ends;
      only = λ other after other_fits none same. only other other_fits (record { rest = after; front = same; ends = none });
    }

-- what a comparison of words told
pub word_other : (word text slice : List ℕ) → false ≡ bytes_eq word slice → slice ≡ text → word ≢ text
word_other word text slice other is same = false≢true (other ∙ (bytes_eq-Decides word slice).1 (same ∙ sym is))

-- a name and a mark
pub opened : (name mark before mid after : List ℕ) (both : Bool) → before ≡ name ++ mid → Takes mark both mid after → MatchBool both (before ≡ (name ++ mark) ++ after) ((rest : List ℕ) → before ≢ (name ++ mark) ++ rest)
opened name mark before mid after true front takes =
    front ∙ ap (λ (tail : List ℕ). name ++ tail) takes ∙ sym (append_assoc name mark after)
opened name mark before mid after false front takes =
    λ rest same. takes.1 rest (append_cancel_left name mid (mark ++ rest) (sym front ∙ same ∙ append_assoc name mark rest))

pub not_opened : (name mark before : List ℕ) → ((rest : List ℕ) → before ≢ name ++ rest) → (rest : List ℕ) → before ≢ (name ++ mark) ++ rest
not_opened name mark before none rest same = none (mark ++ rest) (same ∙ append_assoc name mark rest)
