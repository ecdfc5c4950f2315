-- The words before a space have none.
use Rattle.std.proofs.Common.{◌≡◌, ℕ, ◌<◌, ◌^◌, Bool, true, false, not, ◌||◌, List, [], ◌∷◌, ◌++◌, refl, sym, ◌∙◌, ap, subst, arith, codes, decimal}
use Rattle.std.specs.Prelude.{Option, Some, None, is_none}
use Rattle.std.specs.List.{flat_map}
use Rattle.std.specs.Str.{bytes_eq}
use Rattle.std.proofs.lemmas.List.{append-nil}
use Rattle.std.proofs.lemmas.Bool.Decides.{nat_tests}
use Rattle.std.proofs.lemmas.Slice.Eq.{bytes_eq-Decides}
use Rattle.dsde_words.specs.Words.{is_word, is_reserved}
use Rattle.dsde_values.proofs.Names.{both_true}
use Rattle.dsde_values.specs.declared.name.Name.{Name}
use Rattle.dsde_values.specs.declared.path.Path.{Path}
use Rattle.dsde_values.specs.Path.{EXEC, IsPath, are_below, index_text, is_component, is_executive, is_index, is_name, is_path, is_plain, name_text, names_text, path_text}
use Rattle.dsde_input_records.specs.Lines.{Lacks}
use Rattle.dsde_input_records.proofs.Ports.{Lacks-decimal, Lacks-identifier}
use Rattle.dsde_input_parser.specs.lemmas.Cuts.{Lacks-append}
use Rattle.dsde_trace_words.specs.Words.{IsCount, IsPlace, place_text}

pub Lacks-count : (number : ℕ) → IsCount number → Lacks 32 (decimal number)
Lacks-count number is = Lacks-decimal number is

-- a line and a column
pub Lacks-place : (place : ℕ × ℕ) → IsPlace place → Lacks 32 (place_text place)
Lacks-place place is =
    Lacks-append 32 (decimal place.0) (58 ∷ decimal place.1) (Lacks-decimal place.0 (omega (arith, is.0)))
    ((λ same. omega (arith, same)), Lacks-decimal place.1 (omega (arith, is.1)))

-- an identifier
pub Lacks-name_word : (name : List ℕ) → is_word name ≡ true → Lacks 32 name
Lacks-name_word name is = Lacks-identifier name is

Lacks-index : (index : Option ℕ) → is_index index ≡ true → Lacks 32 (index_text index)
Lacks-index None is = tt
Lacks-index (Some index) is =
    let fits : index < 2 ^ 64 = grind (arith, nat_tests) in
    ((λ same. omega (arith, same)), Lacks-append 32 (decimal index) (93 ∷ []) (Lacks-decimal index fits) ((λ same. omega (arith, same)), tt))

Lacks-name : (name : Name) → is_name name ≡ true → Lacks 32 (name_text name)
Lacks-name name is =
    let parts = both_true (is_word name.stem) (is_index name.index) is in
    Lacks-append 32 name.stem (index_text name.index) (Lacks-identifier name.stem parts.0) (Lacks-index name.index parts.1)

none_of : (index : Option ℕ) → is_none index ≡ true → index ≡ None
none_of None is = refl
none_of (Some index) is = absurd (cc)

Lacks-plain : (word : List ℕ) (name : Name) → Lacks 32 word → is_plain word name ≡ true → Lacks 32 (name_text name)
Lacks-plain word name lacks is =
    let parts = both_true (bytes_eq name.stem word) (is_none name.index) is in
    let stem : name.stem ≡ word = (bytes_eq-Decides name.stem word).0 parts.0 in
    let text : name_text name ≡ word = ap (λ stem. stem ++ index_text name.index) stem ∙ ap (λ index. word ++ index_text index) (none_of name.index parts.1) ∙ append-nil word in
    subst (Lacks 32) (sym text) lacks

Lacks-last : (component : Bool) (name : Name) → is_component name ≡ component → (component || is_executive name) ≡ true → Lacks 32 (name_text name)
Lacks-last true name is either = Lacks-name name (both_true (is_name name) (not (is_reserved name.stem)) is).0
Lacks-last false name is either = Lacks-plain EXEC.stem name (Lacks-identifier EXEC.stem refl) either

-- the texts of later names
abbrev later_text : Name → List ℕ
later_text name = 47 ∷ name_text name

Lacks-later : (name : Name) → Lacks 32 (name_text name) → Lacks 32 (later_text name)
Lacks-later name lacks = ((λ same. omega (arith, same)), lacks)

component_is : (name : Name) → is_component name ≡ true → Lacks 32 (name_text name)
component_is name is = Lacks-name name (both_true (is_name name) (not (is_reserved name.stem)) is).0

below_last : (name : Name) → are_below (name ∷ []) ≡ true → Lacks 32 (name_text name)
below_last name are = Lacks-last (is_component name) name refl are

below_first : (name next : Name) (names : List Name) → are_below (name ∷ next ∷ names) ≡ true → Lacks 32 (name_text name)
below_first name next names are = component_is name (both_true (is_component name) (are_below (next ∷ names)) are).0

below_rest : (name next : Name) (names : List Name) → are_below (name ∷ next ∷ names) ≡ true → are_below (next ∷ names) ≡ true
below_rest name next names are = (both_true (is_component name) (are_below (next ∷ names)) are).1

Lacks-below : (names : List Name) → are_below names ≡ true → Lacks 32 (flat_map later_text names)
Lacks-below [] are = tt
Lacks-below (name ∷ []) are = Lacks-append 32 (later_text name) [] (Lacks-later name (below_last name are)) tt
Lacks-below (name ∷ next ∷ names) are =
    Lacks-append 32 (later_text name) (flat_map later_text (next ∷ names)) (Lacks-later name (below_first name next names are)) (Lacks-below (next ∷ names) (below_rest name next names are))

-- A path has no space.
pub Lacks-path : (path : Path) → IsPath path → Lacks 32 (path_text path)
Lacks-path path is = by path.names is
  where
    by : (names : List Name) → is_path names ≡ true → Lacks 32 (names_text names)
    by [] is = tt
    by (name ∷ names) is =
        let parts = both_true (is_plain (codes "root") name) (are_below names) is in
        Lacks-append 32 (name_text name) (flat_map later_text names)
        (Lacks-plain (codes "root") name (Lacks-identifier (codes "root") refl) parts.0) (Lacks-below names parts.1)
