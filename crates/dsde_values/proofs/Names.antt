-- Names and paths are told from their texts.
use Rattle.std.proofs.Common.{◌≡◌, ◌≢◌, ℕ, ◌<◌, ◌≤◌, ◌^◌, Bool, true, false, ◌&&◌, ◌||◌, not, List, [], ◌∷◌, ◌++◌, length, take, drop, refl, sym, ◌∙◌, ap, arith}
use Rattle.std.specs.Prelude.{Option, Some, None, decimal}
use Rattle.std.specs.Char.{is_ascii_digit}
use Rattle.std.specs.List.{list_all, take_while, prefix_len}
use Rattle.std.proofs.lemmas.Fmt.{decimal_injective}
use Rattle.std.proofs.lemmas.List.{same_from_push, take-append-drop}
use Rattle.std.proofs.Math.Seq.{take-append_seam, drop-append_seam}
use borrow.Author.Tests.{ltb-true}
use Rattle.dsde_values.specs.declared.name.Name.{Name}
use Rattle.dsde_words.specs.Words.{is_word_byte, is_word, begins_word}
use Rattle.dsde_values.specs.Path.{index_text, name_text, is_index, is_name, is_component, is_executive, are_below}

and_assoc : (a b c : Bool) → (a && b) && c ≡ a && (b && c)
and_assoc true b c = refl
and_assoc false b c = refl

abbrev pub may_be_last : Name → Bool
may_be_last name = is_component name || is_executive name

-- what stands below, by its last name
pub are_below-last : (names : List Name) (last : Name) → are_below (names ++ last ∷ []) ≡ list_all is_component names && may_be_last last
are_below-last [] last = refl
are_below-last (name ∷ []) last = sym (and_assoc (is_component name) true (may_be_last last))
are_below-last (name ∷ other ∷ names) last =
    ap (λ rest. is_component name && rest) (are_below-last (other ∷ names) last)
    ∙ sym (and_assoc (is_component name) (list_all is_component (other ∷ names)) (may_be_last last))

pub both_true : (one other : Bool) → (one && other) ≡ true → (one ≡ true) × (other ≡ true)
both_true true other h = (refl, h)
both_true false other h = absurd (let e : false ≡ true = h in cc)

pub not_word_index : (index : Option ℕ) → begins_word (index_text index) ≡ false
not_word_index None = refl
not_word_index (Some index) = refl

prefix_len-word : (word rest : List ℕ) → list_all is_word_byte word ≡ true → begins_word rest ≡ false → prefix_len is_word_byte (word ++ rest) ≡ length word
prefix_len-word [] [] all none = refl
prefix_len-word [] (byte ∷ rest) all none = rw none refl
prefix_len-word (byte ∷ word) rest all none =
    let parts = both_true (is_word_byte byte) (list_all is_word_byte word) all in
    rw (parts.0, prefix_len-word word rest parts.1 none) (omega arith)

-- a word, and then no word
pub take_while-word : (word rest : List ℕ) → list_all is_word_byte word ≡ true → begins_word rest ≡ false → take_while is_word_byte (word ++ rest) ≡ word
take_while-word word rest all none =
    ap (λ (n : ℕ). take n (word ++ rest)) (prefix_len-word word rest all none) ∙ take-append_seam word rest

pub identifier_word : (word : List ℕ) → is_word word ≡ true → list_all is_word_byte word ≡ true
identifier_word [] is = refl
identifier_word (byte ∷ word) is = (both_true (not (is_ascii_digit byte)) (list_all is_word_byte (byte ∷ word)) is).1

-- where a name's text is cut
abbrev pub stem_size : List ℕ → ℕ
stem_size text = length (take_while is_word_byte text)

module _ (name : Name) (text : List ℕ) (is : is_name name ≡ true) (same : name_text name ≡ text) where
  pub its_stem : is_word name.stem ≡ true
  its_stem = (both_true (is_word name.stem) (is_index name.index) is).0

  pub its_index : is_index name.index ≡ true
  its_index = (both_true (is_word name.stem) (is_index name.index) is).1

  its_size : stem_size text ≡ length name.stem
  its_size = ap stem_size (sym same) ∙ ap length (take_while-word name.stem (index_text name.index) (identifier_word name.stem its_stem) (not_word_index name.index))

  pub its_front : take (stem_size text) text ≡ name.stem
  its_front = ap (λ (n : ℕ). take n text) its_size ∙ ap (take (length name.stem)) (sym same) ∙ take-append_seam name.stem (index_text name.index)

  pub its_back : drop (stem_size text) text ≡ index_text name.index
  its_back = ap (λ (n : ℕ). drop n text) its_size ∙ ap (drop (length name.stem)) (sym same) ∙ drop-append_seam name.stem (index_text name.index)

-- a name that was cut
pub name_whole : (stem rest text : List ℕ) (index : Option ℕ) → stem ≡ take (stem_size text) text → rest ≡ drop (stem_size text) text → index_text index ≡ rest → name_text (record { stem = stem; index = index }) ≡ text
name_whole stem rest text index front back same =
    ap (λ (tail : List ℕ). stem ++ tail) (same ∙ back) ∙ ap (λ (head : List ℕ). head ++ drop (stem_size text) text) front ∙ take-append-drop (stem_size text) text

-- An index in brackets is told from its text.
module _ (first last number : ℕ) (digits text : List ℕ) (cut : text ≡ first ∷ digits ++ last ∷ []) where
  index_parts : (index : ℕ) → index_text (Some index) ≡ text → (first ≡ 91) × (last ≡ 93) × (decimal index ≡ digits)
  index_parts index same =
      let all : 91 ∷ decimal index ++ 93 ∷ [] ≡ first ∷ digits ++ last ∷ [] = same ∙ cut in
      let tails : decimal index ++ 93 ∷ [] ≡ digits ++ last ∷ [] = cc in
      let ends = same_from_push (decimal index) digits 93 last tails in
      (cc, sym ends.1, ends.0)

  pub no_brackets : (first ≡ 91 → last ≡ 93 → ⊥) → (index : Option ℕ) → is_index index ≡ true → index_text index ≢ text
  no_brackets other None is same = let e : [] ≡ first ∷ digits ++ last ∷ [] = same ∙ cut in cc
  no_brackets other (Some index) is same = let parts = index_parts index same in other parts.0 parts.1

  pub no_digits : ((n : ℕ) → n < 2 ^ 64 → digits ≢ decimal n) → (index : Option ℕ) → is_index index ≡ true → index_text index ≢ text
  no_digits none None is same = let e : [] ≡ first ∷ digits ++ last ∷ [] = same ∙ cut in cc
  no_digits none (Some index) is same =
      none index (omega (arith, ltb-true index (2 ^ 63) is)) (sym (index_parts index same).2)

  pub no_index : number < 2 ^ 64 → 2 ^ 63 ≤ number → digits ≡ decimal number → (index : Option ℕ) → is_index index ≡ true → index_text index ≢ text
  no_index fits large is_number None is same = let e : [] ≡ first ∷ digits ++ last ∷ [] = same ∙ cut in cc
  no_index fits large is_number (Some index) is same =
      let small : index < 2 ^ 63 = ltb-true index (2 ^ 63) is in
      let one : index ≡ number = decimal_injective index number (omega arith) fits ((index_parts index same).2 ∙ is_number) in omega arith
