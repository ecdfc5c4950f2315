-- The variants of an enum are told apart by their names.
use Rattle.std.proofs.Common.{◌≡◌, ◌≢◌, ◌||◌, not, zero, suc, ℕ, ◌<◌, ◌≤◌, ◌^◌, Bool, true, false, List, [], ◌∷◌, ◌++◌, length, get_or, refl, sym, ◌∙◌, ap, subst, arith, inl, inr, append_assoc, cond, ltb}
use Rattle.std.specs.Prelude.{Option, Some, None, slice_get, slice_index_or, codes, Result, IfSome, IfNone}
use Rattle.std.specs.Option.{option_map_or, ok_or}
use Rattle.std.specs.Str.{bytes_eq}
use Rattle.std.specs.List.{position, position_or_len, list_all, list_any}
use Rattle.std.proofs.lemmas.Bool.{cases_lt, false≢true}
use Rattle.std.proofs.lemmas.Bool.Decides.{nat_tests}
use Rattle.std.proofs.lemmas.List.{append_cancel_left}
use Rattle.std.proofs.lemmas.List.Quantifiers.{position-Some}
use Rattle.std.proofs.lemmas.List.Sums.{fails_before_first, AllPass-from_list_all}
use Rattle.std.proofs.lemmas.Option.{slice_get_within, get_or_from_slice_get, slice_get-get_or}
use Rattle.std.proofs.lemmas.Slice.Eq.{bytes_eq-Decides}
use borrow.Author.Tests.{ltb-true, lt-ltb}
use Rattle.dsde_values.specs.declared.reading.ReadValue.{ReadValue}
use Rattle.dsde_values.specs.declared.reading.ReadValue.TheVariants as end_of
use Rattle.dsde_values.specs.declared.types.Def.{Def}
use Rattle.dsde_values.specs.declared.types.Shape.{Shape}
use Rattle.dsde_values.specs.declared.types.Shape.TheVariants as shape
use Rattle.dsde_values.specs.declared.types.Types.{Types}
use Rattle.dsde_words.specs.Words.{is_word_byte, is_word, begins_word}
use Rattle.dsde_values.specs.Word.{ends_word}
use Rattle.dsde_values.specs.Value.{variants, name_at, variants_at, is_variant, are_distinct, is_lawful_shape, is_lawful_def, IsLawful}
use Rattle.dsde_values.specs.Reading.{Took, Lacks, NoWord, variant_text, ReadsVariant}
use Rattle.dsde_values.proofs.Fronts.{and_false, word_same, stops}
use Rattle.dsde_values.proofs.Names.{both_true, identifier_word}

abbrev has_name : List ℕ → List ℕ → Bool
has_name name variant = bytes_eq variant name

none_from_cond : (found : Bool) (place : ℕ) → cond found (Some place) None ≡ None → found ≡ false
none_from_cond true place e = absurd (cc)
none_from_cond false place e = refl

-- where the first of a name stands
module _ (names : List (List ℕ)) (name : List ℕ) where
  pub placed : (place : ℕ) → position (has_name name) names ≡ Some place → slice_get names place ≡ Some name
  placed place found =
      let first = position-Some (has_name name) names place name found in
      slice_get-get_or names place name first.0 ∙ ap Some ((bytes_eq-Decides (get_or names place name) name).0 first.1)

  fails : (at : ℕ) → slice_get names at ≡ Some name → at < position_or_len (has_name name) names → ⊥
  fails at is before =
      let here : has_name name name ≡ false = ap (has_name name) (sym (get_or_from_slice_get names at name name is)) ∙ fails_before_first (has_name name) names at name before in
      false≢true (sym here ∙ (bytes_eq-Decides name name).1 refl)

  pub unplaced : position (has_name name) names ≡ None → (at : ℕ) → slice_get names at ≢ Some name
  unplaced none at is =
      let past = none_from_cond _ _ none in
      let within = slice_get_within names at name is in
      let all : length names ≤ position_or_len (has_name name) names = grind (arith, nat_tests) in
      fails at is (omega arith)

  pub placed_first : (place : ℕ) → position (has_name name) names ≡ Some place → (at : ℕ) → slice_get names at ≡ Some name → place ≤ at
  placed_first place found at is =
      let first = position-Some (has_name name) names place name found in
      elim (cases_lt at place) [
        | inl before ↦ absurd (false≢true (sym (first.2 at before) ∙ ap (has_name name) (get_or_from_slice_get names at name name is) ∙ (bytes_eq-Decides name name).1 refl))
        | inr past ↦ past
      ]

identifier_ends : (word : List ℕ) → list_all is_word_byte word ≡ true → 0 < length word → ends_word word ≡ true
identifier_ends [] all some = absurd (omega arith)
identifier_ends (byte ∷ []) all some = (both_true (is_word_byte byte) true all).0
identifier_ends (byte ∷ next ∷ word) all some = identifier_ends (next ∷ word) (both_true (is_word_byte byte) (list_all is_word_byte (next ∷ word)) all).1 (omega arith)

identifier_some : (word : List ℕ) → is_word word ≡ true → 0 < length word
identifier_some [] is = absurd (false≢true is)
identifier_some (byte ∷ word) is = omega arith

-- An identifier ends in a letter, a digit or `_`, whatever stands before it.
ends_word-behind : (text word : List ℕ) → 0 < length word → ends_word word ≡ true → ends_word (text ++ word) ≡ true
ends_word-behind [] word some ends = ends
ends_word-behind (byte ∷ []) [] some ends = absurd (omega arith)
ends_word-behind (byte ∷ []) (next ∷ word) some ends = ends
ends_word-behind (byte ∷ next ∷ text) word some ends = ends_word-behind (next ∷ text) word some ends

pub ends_word-identifier : (text word : List ℕ) → is_word word ≡ true → ends_word (text ++ word) ≡ true
ends_word-identifier text word is =
    ends_word-behind text word (identifier_some word is) (identifier_ends word (identifier_word word is) (identifier_some word is))

-- a lawful definition
pub lawful_def : (types : Types) (number : ℕ) (def : Def) → IsLawful types → slice_get types.defs number ≡ Some def → is_lawful_def def ≡ true
lawful_def types number def lawful is =
    ap is_lawful_def (sym (get_or_from_slice_get types.defs number def def is))
    ∙ AllPass-from_list_all is_lawful_def types.defs lawful number def (slice_get_within types.defs number def is)

pub lawful_name : (def : Def) → is_lawful_def def ≡ true → is_word def.name ≡ true
lawful_name def lawful = (both_true (is_word def.name) (is_lawful_shape def.shape) lawful).0

lawful_variants : (s : Shape) → is_lawful_shape s ≡ true → (list_all is_word (variants s) ≡ true) × (are_distinct (variants s) ≡ true)
lawful_variants (shape.Enum names) lawful = both_true (list_all is_word names) (are_distinct names) lawful
lawful_variants (shape.Rec fields) lawful = (refl, refl)

def_variants : (def : Def) → is_lawful_def def ≡ true → (list_all is_word (variants def.shape) ≡ true) × (are_distinct (variants def.shape) ≡ true)
def_variants def lawful = lawful_variants def.shape (both_true (is_word def.name) (is_lawful_shape def.shape) lawful).1

-- A name that stands somewhere is found.
found_at : (names : List (List ℕ)) (at : ℕ) (name : List ℕ) → slice_get names at ≡ Some name → list_any (λ (other : List ℕ). bytes_eq other name) names ≡ true
found_at [] at name is = absurd (cc)
found_at (first ∷ names) zero name is =
    let own : first ≡ name = cc in
    ap (λ (here : Bool). here || list_any (λ (other : List ℕ). bytes_eq other name) names) ((bytes_eq-Decides first name).1 own)
found_at (first ∷ names) (suc at) name is = or_true (bytes_eq first name) _ (found_at names at name is)
  where
    or_true : (here later : Bool) → later ≡ true → (here || later) ≡ true
    or_true true later e = refl
    or_true false later e = e

-- Of names that are distinct, no two are one.
distinct_at : (names : List (List ℕ)) → are_distinct names ≡ true → (i j : ℕ) (name : List ℕ) → slice_get names i ≡ Some name → slice_get names j ≡ Some name → i ≡ j
distinct_at [] distinct i j name here there = absurd (cc)
distinct_at (first ∷ names) distinct zero zero name here there = refl
distinct_at (first ∷ names) distinct zero (suc j) name here there =
    let own : first ≡ name = cc in
    let parts = both_true (not (list_any (λ (other : List ℕ). bytes_eq other first) names)) (are_distinct names) distinct in
    absurd (false≢true (ap not (sym (ap (λ (n : List ℕ). list_any (λ (other : List ℕ). bytes_eq other n) names) own ∙ found_at names j name there)) ∙ parts.0))
distinct_at (first ∷ names) distinct (suc i) zero name here there =
    let own : first ≡ name = cc in
    let parts = both_true (not (list_any (λ (other : List ℕ). bytes_eq other first) names)) (are_distinct names) distinct in
    absurd (false≢true (ap not (sym (ap (λ (n : List ℕ). list_any (λ (other : List ℕ). bytes_eq other n) names) own ∙ found_at names i name here)) ∙ parts.0))
distinct_at (first ∷ names) distinct (suc i) (suc j) name here there =
    let parts = both_true (not (list_any (λ (other : List ℕ). bytes_eq other first) names)) (are_distinct names) distinct in
    ap suc (distinct_at names parts.1 i j name here there)

module _ (types : Types) (lawful : IsLawful types) (number : ℕ) where
  named : (found : Option Def) → found ≡ slice_get types.defs number → (at : ℕ) (variant : List ℕ) → slice_get (option_map_or (λ (def : Def). variants def.shape) found []) at ≡ Some variant → is_word variant ≡ true
  named None is at variant here = absurd (cc)
  named (Some def) is at variant here =
      let all = (def_variants def (lawful_def types number def lawful (sym is))).0 in
      ap is_word (sym (get_or_from_slice_get (variants def.shape) at variant variant here))
      ∙ AllPass-from_list_all is_word (variants def.shape) all at variant (slice_get_within (variants def.shape) at variant here)

  pub variant_named : (at : ℕ) (variant : List ℕ) → slice_get (variants_at types number) at ≡ Some variant → is_word variant ≡ true
  variant_named at variant here = named (slice_get types.defs number) refl at variant here

  one : (found : Option Def) → found ≡ slice_get types.defs number → (i j : ℕ) (variant : List ℕ) → slice_get (option_map_or (λ (def : Def). variants def.shape) found []) i ≡ Some variant → slice_get (option_map_or (λ (def : Def). variants def.shape) found []) j ≡ Some variant → i ≡ j
  one None is i j variant here there = absurd (cc)
  one (Some def) is i j variant here there = distinct_at (variants def.shape) (def_variants def (lawful_def types number def lawful (sym is))).1 i j variant here there

  pub variant_one : (i j : ℕ) (variant : List ℕ) → slice_get (variants_at types number) i ≡ Some variant → slice_get (variants_at types number) j ≡ Some variant → i ≡ j
  variant_one i j variant here there = one (slice_get types.defs number) refl i j variant here there

  -- the name of a variant that there is
  abbrev pub variant_name : ℕ → List ℕ
  variant_name variant = slice_index_or (variants_at types number) variant []

  pub there_is : (variant : ℕ) → is_variant types number variant ≡ true → slice_get (variants_at types number) variant ≡ Some (variant_name variant)
  there_is variant is = slice_get-get_or (variants_at types number) variant [] (ltb-true variant (length (variants_at types number)) (both_true (ltb variant (2 ^ 32)) _ is).1)

  module _ (bytes behind word left : List ℕ) (front : bytes ≡ (name_at types number ++ codes "::") ++ behind) (cut : behind ≡ word ++ left)
      (all : list_all is_word_byte word ≡ true) (end : begins_word left ≡ false) where
    -- the word is the name of the variant that stands there
    its_name : (other : ℕ) (rest : List ℕ) → is_variant types number other ≡ true → NoWord (variant_text types number) other rest → bytes ≡ variant_text types number other ++ rest → slice_get (variants_at types number) other ≡ Some word
    its_name other rest is none same =
        let here = there_is other is in
        let identifier = variant_named other (variant_name other) here in
        let stop = stops (variant_text types number other) rest (ends_word-identifier (name_at types number ++ codes "::") (variant_name other) identifier) none in
        let one : word ++ left ≡ variant_name other ++ rest =
        append_cancel_left (name_at types number ++ codes "::") (word ++ left) (variant_name other ++ rest)
        (ap (λ (tail : List ℕ). (name_at types number ++ codes "::") ++ tail) (sym cut) ∙ sym front ∙ same ∙ append_assoc (name_at types number ++ codes "::") (variant_name other) rest) in
        here ∙ ap Some (word_same word left (variant_name other) rest all end (identifier_word (variant_name other) identifier) stop one)

    pub variant_taken : (variant : ℕ) → variant < 2 ^ 32 → slice_get (variants_at types number) variant ≡ Some word → Took (λ v. is_variant types number v ≡ true) (variant_text types number) (NoWord (variant_text types number)) bytes variant left
    variant_taken variant fits is =
        let own : variant_name variant ≡ word = get_or_from_slice_get (variants_at types number) variant word [] is in
        record {
          is = rw (lt-ltb variant (2 ^ 32) fits, lt-ltb variant (length (variants_at types number)) (slice_get_within (variants_at types number) variant word is)) refl;
          front = front ∙ ap (λ (tail : List ℕ). (name_at types number ++ codes "::") ++ tail) (cut ∙ ap (λ (w : List ℕ). w ++ left) (sym own)) ∙ sym (append_assoc (name_at types number ++ codes "::") (variant_name variant) left);
          ends = and_false (ends_word (variant_text types number variant)) (begins_word left) end;
          only = λ other rest are none same. variant_one other variant word (its_name other rest are none same) is;
        }

    no_variant : ((variant : ℕ) → variant < 2 ^ 32 → slice_get (variants_at types number) variant ≢ Some word) → Lacks (λ v. is_variant types number v ≡ true) (variant_text types number) (NoWord (variant_text types number)) bytes
    no_variant none other rest are no_word same =
        none other (ltb-true other (2 ^ 32) (both_true (ltb other (2 ^ 32)) _ are).0) (its_name other rest are no_word same)

    pub variant_read : (found : Option ℕ) → (fits : (variant : ℕ) → found ≡ Some variant → variant < 2 ^ 32) → ((variant : ℕ) → found ≡ Some variant → slice_get (variants_at types number) variant ≡ Some word) →
        (found ≡ None → (variant : ℕ) → variant < 2 ^ 32 → slice_get (variants_at types number) variant ≢ Some word) → ReadsVariant types number bytes (ok_or found end_of.NotAValue) left
    variant_read None fits some none = no_variant (none refl)
    variant_read (Some variant) fits some none = variant_taken variant (fits variant refl) (some variant refl)

-- Nothing is there, where the enum's name is not.
pub no_enum : (types : Types) (number : ℕ) (bytes : List ℕ) → ((rest : List ℕ) → bytes ≢ (name_at types number ++ codes "::") ++ rest) → Lacks (λ v. is_variant types number v ≡ true) (variant_text types number) (NoWord (variant_text types number)) bytes
no_enum types number bytes none other rest is no_word same =
    none (slice_index_or (variants_at types number) other [] ++ rest) (same ∙ append_assoc (name_at types number ++ codes "::") (slice_index_or (variants_at types number) other []) rest)

-- the same, by the clauses of what was found
pub variant_found : (types : Types) (lawful : IsLawful types) (number : ℕ) (bytes behind word left name : List ℕ) (all : List (List ℕ)) (found : Option ℕ) (answer : Result ℕ ReadValue) →
    name ≡ name_at types number → all ≡ variants_at types number → bytes ≡ (name ++ codes "::") ++ behind → behind ≡ word ++ left → list_all is_word_byte word ≡ true → begins_word left ≡ false →
    IfSome found (λ variant. (variant < 2 ^ 32) × (slice_get all variant ≡ Some word)) → IfNone found ((variant : ℕ) → variant < 2 ^ 32 → slice_get all variant ≢ Some word) → answer ≡ ok_or found end_of.NotAValue →
    ReadsVariant types number bytes answer left
variant_found types lawful number bytes behind word left name all None answer is_name is_all front cut word_is end some none is =
    rw is (variant_read types lawful number bytes behind word left (rw is_name at front) cut word_is end None (λ v e. absurd (cc)) (λ v e. absurd (cc)) (λ e. rw is_all at none))
variant_found types lawful number bytes behind word left name all (Some variant) answer is_name is_all front cut word_is end some none is =
    rw is (variant_read types lawful number bytes behind word left (rw is_name at front) cut word_is end (Some variant)
    (λ v e. subst (λ (n : ℕ). n < 2 ^ 32) (one variant v e) some.0) (λ v e. subst (λ (n : ℕ). slice_get (variants_at types number) n ≡ Some word) (one variant v e) (rw is_all at some.1)) (λ e. absurd (cc)))
  where
    one : (n m : ℕ) → Some n ≡ Some m → n ≡ m
    one n m e = cc
