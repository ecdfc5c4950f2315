-- A path's text is cut at its slashes into the texts of its names.
use Rattle.std.proofs.Common.{◌≡◌, ◌≢◌, ℕ, zero, suc, ◌+◌, ◌<◌, ◌^◌, Bool, true, false, ◌&&◌, ◌||◌, not, List, [], ◌∷◌, ◌++◌, length, take, map, get_or, refl, sym, ◌∙◌, ap, subst, arith, eqb}
use Rattle.std.specs.Prelude.{Option, Some, None, is_none, codes, decimal}
use Rattle.std.specs.List.{list_all, slice_split, join_with_byte, All}
use Rattle.std.specs.Str.{bytes_eq}
use Rattle.std.specs.Str.Parse.{AllDigits}
use Rattle.std.proofs.lemmas.Bool.Decides.{nat_tests}
use Rattle.std.proofs.lemmas.Fmt.{decimal_is_IsNumeral, decimal_injective}
use Rattle.std.proofs.lemmas.List.{append-nil, same_from_push, take_all, take_more, map-append}
use Rattle.std.proofs.lemmas.List.Folds.{list_all-append}
use Rattle.std.proofs.lemmas.List.Sums.{AllPass-from_list_all}
use Rattle.std.proofs.lemmas.List.Splits.{slice_split_none, slice_split_at, join_with_byte-slice_split}
use Rattle.std.proofs.lemmas.Slice.Eq.{bytes_eq-Decides}
use borrow.Author.Tests.{ltb-true}
use Rattle.dsde_values.specs.declared.name.Name.{Name}
use Rattle.dsde_values.specs.declared.path.Path.{Path}
use Rattle.dsde_words.specs.Words.{is_word_byte}
use Rattle.dsde_values.specs.Path.{index_text, name_text, names_text, path_text, is_index, is_name, is_component, is_plain, are_below, is_path, IsPath}
use Rattle.dsde_values.proofs.Names.{both_true, identifier_word, its_stem, its_index, its_front, its_back}
use Rattle.dsde_values.proofs.Numbers.{is_word_byte-digit}

abbrev pub is_slash : ℕ → Bool
is_slash byte = eqb byte 47

abbrev is_other : ℕ → Bool
is_other byte = not (is_slash byte)

-- the parts of a text between its slashes
abbrev pub pieces : List ℕ → List (List ℕ)
pieces text = slice_split is_slash text

other_word : (byte : ℕ) → is_word_byte byte ≡ true → is_other byte ≡ true
other_word byte word = grind (arith, nat_tests)

both : (one other : Bool) → one ≡ true → other ≡ true → (one && other) ≡ true
both one other e f = rw (e, f) refl

word_others : (word : List ℕ) → list_all is_word_byte word ≡ true → list_all is_other word ≡ true
word_others [] all = refl
word_others (byte ∷ word) all =
    let parts = both_true (is_word_byte byte) (list_all is_word_byte word) all in
    both (is_other byte) (list_all is_other word) (other_word byte parts.0) (word_others word parts.1)

digit_others : (digits : List ℕ) → AllDigits 10 digits → list_all is_other digits ≡ true
digit_others [] all = refl
digit_others (digit ∷ digits) all =
    both (is_other digit) (list_all is_other digits) (other_word digit (is_word_byte-digit digit all.0)) (digit_others digits all.1)

index_others : (index : Option ℕ) → is_index index ≡ true → list_all is_other (index_text index) ≡ true
index_others None is = refl
index_others (Some index) is =
    let digits = (decimal_is_IsNumeral index (omega (arith, ltb-true index (2 ^ 63) is))).0 in
    list_all-append is_other (decimal index) (93 ∷ []) ∙ both (list_all is_other (decimal index)) true (digit_others (decimal index) digits.1) refl

name_others : (name : Name) → is_name name ≡ true → list_all is_other (name_text name) ≡ true
name_others name is =
    list_all-append is_other name.stem (index_text name.index)
    ∙ both (list_all is_other name.stem) (list_all is_other (index_text name.index))
    (word_others name.stem (identifier_word name.stem (its_stem name (name_text name) is refl)))
    (index_others name.index (its_index name (name_text name) is refl))

other_false : (slash : Bool) → not slash ≡ true → slash ≡ false
other_false true e = sym e
other_false false e = refl

-- A name's text has no slash.
no_slash : (name : Name) → is_name name ≡ true → All (λ (byte : ℕ). is_slash byte ≡ false) (name_text name)
no_slash name is k d within =
    other_false (is_slash (get_or (name_text name) k d)) (AllPass-from_list_all is_other (name_text name) (name_others name is) k d within)

-- the texts of names, cut apart
pub pieces-names_text : (name : Name) (names : List Name) → list_all is_name (name ∷ names) ≡ true → pieces (names_text (name ∷ names)) ≡ map name_text (name ∷ names)
pieces-names_text name [] all =
    let is = (both_true (is_name name) true all).0 in
    rw (append-nil (name_text name)) (slice_split_none is_slash (name_text name) (no_slash name is))
pieces-names_text name (later ∷ names) all =
    let parts = both_true (is_name name) (list_all is_name (later ∷ names)) all in
    slice_split_at is_slash (name_text name) 47 (names_text (later ∷ names)) (no_slash name parts.0) refl
    ∙ ap (λ (rest : List (List ℕ)). name_text name ∷ rest) (pieces-names_text later names parts.1)

names_joined : (names : List Name) → names_text names ≡ join_with_byte 47 (map name_text names)
names_joined [] = refl
names_joined (name ∷ []) = append-nil (name_text name)
names_joined (name ∷ later ∷ names) = ap (λ (rest : List ℕ). name_text name ++ 47 ∷ rest) (names_joined (later ∷ names))

-- names whose texts are the parts of a text
pub names_text-pieces : (names : List Name) (text : List ℕ) → map name_text names ≡ pieces text → names_text names ≡ text
names_text-pieces names text same = names_joined names ∙ ap (join_with_byte 47) same ∙ join_with_byte-slice_split 47 text

plain_is : (word : List ℕ) (name : Name) → is_plain word name ≡ true → name ≡ record { stem = word; index = None }
plain_is word name is =
    let parts = both_true (bytes_eq name.stem word) (is_none name.index) is in
    let stem = (bytes_eq-Decides name.stem word).0 parts.0 in
    λ i. record { stem = stem i; index = none_is name.index parts.1 i }
  where
    none_is : (index : Option ℕ) → is_none index ≡ true → index ≡ None
    none_is None e = refl
    none_is (Some index) e = absurd (let f : false ≡ true = e in cc)

exec_name : (name : Name) → is_plain (codes "exec") name ≡ true → is_name name ≡ true
exec_name name is = subst (λ (n : Name). is_name n ≡ true) (sym (plain_is (codes "exec") name is)) refl

root_name : (name : Name) → is_plain (codes "root") name ≡ true → is_name name ≡ true
root_name name is = subst (λ (n : Name). is_name n ≡ true) (sym (plain_is (codes "root") name is)) refl

component_name : (name : Name) → is_component name ≡ true → is_name name ≡ true
component_name name is = (both_true (is_name name) _ is).0

last_name : (name : Name) (component : Bool) → component ≡ is_component name → (component || is_plain (codes "exec") name) ≡ true → is_name name ≡ true
last_name name true is e = component_name name (sym is)
last_name name false is e = exec_name name e

names_below : (names : List Name) → are_below names ≡ true → list_all is_name names ≡ true
names_below [] below = refl
names_below (name ∷ []) below = both (is_name name) true (last_name name (is_component name) refl below) refl
names_below (name ∷ later ∷ names) below =
    let parts = both_true (is_component name) (are_below (later ∷ names)) below in
    both (is_name name) (list_all is_name (later ∷ names)) (component_name name parts.0) (names_below (later ∷ names) parts.1)

path_names : (name : Name) (names : List Name) → is_path (name ∷ names) ≡ true → list_all is_name (name ∷ names) ≡ true
path_names name names is =
    let parts = both_true (is_plain (codes "root") name) (are_below names) is in
    both (is_name name) (list_all is_name names) (root_name name parts.0) (names_below names parts.1)

-- a path's text, cut at its slashes
pub record Cut (names : List Name) (text : List ℕ) : Type 0 where
  pub named : list_all is_name names ≡ true
  pub texts : pieces text ≡ map name_text names

pub path_cut : (names : List Name) (text : List ℕ) → is_path names ≡ true → names_text names ≡ text → Cut names text
path_cut [] text is same = absurd (let e : false ≡ true = is in cc)
path_cut (name ∷ names) text is same = record {
  named = path_names name names is;
  texts = ap pieces (sym same) ∙ pieces-names_text name names (path_names name names is);
}

index_same : (index other : Option ℕ) → is_index index ≡ true → is_index other ≡ true → index_text index ≡ index_text other → index ≡ other
index_same None None is are same = refl
index_same None (Some other) is are same = absurd (cc)
index_same (Some index) None is are same = absurd (cc)
index_same (Some index) (Some other) is are same =
    let tails : decimal index ++ 93 ∷ [] ≡ decimal other ++ 93 ∷ [] = cc in
    ap Some (decimal_injective index other (omega (arith, ltb-true index (2 ^ 63) is)) (omega (arith, ltb-true other (2 ^ 63) are)) (same_from_push (decimal index) (decimal other) 93 93 tails).0)

-- A name is told from its text.
pub name_same : (name other : Name) → is_name name ≡ true → is_name other ≡ true → name_text name ≡ name_text other → name ≡ other
name_same name other is are same =
    let stem : name.stem ≡ other.stem = sym (its_front name (name_text other) is same) ∙ its_front other (name_text other) are refl in
    let index : index_text name.index ≡ index_text other.index = sym (its_back name (name_text other) is same) ∙ its_back other (name_text other) are refl in
    let one = index_same name.index other.index (its_index name (name_text name) is refl) (its_index other (name_text other) are refl) index in
    λ i. record { stem = stem i; index = one i }

-- Names are told from their texts.
pub names_same : (names others : List Name) → list_all is_name names ≡ true → list_all is_name others ≡ true → map name_text names ≡ map name_text others → names ≡ others
names_same [] [] is are same = refl
names_same [] (other ∷ others) is are same = absurd (cc)
names_same (name ∷ names) [] is are same = absurd (cc)
names_same (name ∷ names) (other ∷ others) is are same =
    let mine = both_true (is_name name) (list_all is_name names) is in
    let theirs = both_true (is_name other) (list_all is_name others) are in
    let heads : name_text name ≡ name_text other = cc in
    let tails : map name_text names ≡ map name_text others = cc in
    let first = name_same name other mine.0 theirs.0 heads in
    let rest = names_same names others mine.1 theirs.1 tails in
    λ i. first i ∷ rest i

-- a name among others, by its text
pub name_at : (names : List Name) (k : ℕ) (d : List ℕ) → list_all is_name names ≡ true → k < length (map name_text names) → (name : Name) × (is_name name ≡ true) × (name_text name ≡ get_or (map name_text names) k d)
name_at [] k d all within = absurd (omega arith)
name_at (name ∷ names) zero d all within = (name, (both_true (is_name name) (list_all is_name names) all).0, refl)
name_at (name ∷ names) (suc k) d all within = name_at names k d (both_true (is_name name) (list_all is_name names) all).1 (omega arith)

-- one more name, whose text is the next part
pub names_more : (names : List Name) (name : Name) (piece : List ℕ) (n : ℕ) (parts : List (List ℕ)) → map name_text names ≡ take n parts → (n < length parts) × (piece ≡ get_or parts n piece) → name_text name ≡ piece → map name_text (names ++ name ∷ []) ≡ take (n + 1) parts
names_more names name piece n parts so_far here same =
    map-append name_text names (name ∷ [])
    ∙ ap (λ (front : List (List ℕ)). front ++ name_text name ∷ []) so_far
    ∙ ap (λ (last : List ℕ). take n parts ++ last ∷ []) (same ∙ here.1)
    ∙ sym (take_more parts n piece here.0)

pub named_more : (names : List Name) (name : Name) → list_all is_name names ≡ true → is_name name ≡ true → list_all is_name (names ++ name ∷ []) ≡ true
named_more names name all is = list_all-append is_name names (name ∷ []) ∙ both (list_all is_name names) (is_name name && true) all (both (is_name name) true is refl)

-- A part that is no name's text is in no path's text.
pub no_path_with : (text piece : List ℕ) (n : ℕ) → (n < length (pieces text)) × (piece ≡ get_or (pieces text) n piece) → ((name : Name) → is_name name ≡ true → name_text name ≢ piece) → (path : Path) → IsPath path → path_text path ≢ text
no_path_with text piece n here none path is same =
    let cut = path_cut path.names text is same in
    let found = name_at path.names n piece cut.named (subst (λ (parts : List (List ℕ)). n < length parts) cut.texts here.0) in
    none found.0 found.1 (found.2 ∙ ap (λ (parts : List (List ℕ)). get_or parts n piece) (sym cut.texts) ∙ sym here.1)

-- all names of a text
module _ (names : List Name) (text : List ℕ) (n : ℕ) (so_far : map name_text names ≡ take n (pieces text)) (all : n ≡ length (pieces text)) (named : list_all is_name names ≡ true) where
  whole : map name_text names ≡ pieces text
  whole = so_far ∙ take_all n (pieces text) (omega arith)

  pub all_read : names_text names ≡ text
  all_read = names_text-pieces names text whole

  only_names : (path : Path) → IsPath path → path_text path ≡ text → path.names ≡ names
  only_names path is same =
      let cut = path_cut path.names text is same in
      names_same path.names names cut.named named (sym cut.texts ∙ sym whole)

  pub only_path : (path : Path) → IsPath path → path_text path ≡ text → path ≡ record { names = names }
  only_path path is same = λ i. record { names = only_names path is same i }

  pub no_path : is_path names ≡ false → (path : Path) → IsPath path → path_text path ≢ text
  no_path none path is same = let found : is_path names ≡ true = ap is_path (sym (only_names path is same)) ∙ is in cc
