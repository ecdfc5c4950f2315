-- Which texts are those of last names: those of names right below the root.
use Rattle.std.proofs.Common.{◌≡◌, ◌≢◌, ℕ, Bool, true, false, ◌&&◌, ◌||◌, List, [], ◌∷◌, ◌++◌, length, refl, sym, ap, subst, ◌∙◌, append-nil}
use Rattle.std.specs.Prelude.{codes, is_none, Option, None, Some}
use Rattle.std.specs.Str.{bytes_eq}
use Rattle.std.proofs.lemmas.Slice.Eq.{bytes_eq-Decides}
use Rattle.dsde_values.specs.Path.{IsPath, is_path, are_below, is_component, is_executive, is_plain, path_text, names_text, name_text}
use Rattle.dsde_values.specs.declared.name.Name.{Name}
use Rattle.dsde_values.specs.declared.path.Path.{Path}
use Rattle.dsde_image.specs.Image.{SpellsLast, last_text}

both : (a b : Bool) → (a && b) ≡ true → (a ≡ true) × (b ≡ true)
both true true is = (refl, refl)
both true false is = absurd (cc is)
both false b is = absurd (cc is)

-- the name `root`
abbrev top : Name
top = record { stem = codes "root"; index = None }

none-is : {A : Type 0} (index : Option A) → is_none index ≡ true → (let none : Option A = None in index ≡ none)
none-is None is = refl
none-is (Some x) is = absurd (cc is)

plain-is : (name : Name) → is_plain (codes "root") name ≡ true → name ≡ top
plain-is name is =
    let parts = both (bytes_eq name.stem (codes "root")) (is_none name.index) is in
    let stem = (bytes_eq-Decides name.stem (codes "root")).0 parts.0 in
    λ i. record { stem = stem i; index = none-is name.index parts.1 i }

-- a path of two names, by its second
below-text : (first name : Name) → is_path (first ∷ name ∷ []) ≡ true → names_text (first ∷ name ∷ []) ≡ codes "root/" ++ name_text name
below-text first name is =
    let parts = both (is_plain (codes "root") first) (are_below (name ∷ [])) is in
    ap (λ first. names_text (first ∷ name ∷ [])) (plain-is first parts.0) ∙ ap (λ rest. codes "root/" ++ rest) (append-nil (name_text name))

same-rest : (one other : List ℕ) → codes "root/" ++ one ≡ codes "root/" ++ other → one ≡ other
same-rest one other is = cc is

two-spell : (names : List Name) (text : List ℕ) → is_path names ≡ true → names_text names ≡ codes "root/" ++ text → length names ≡ 2 → SpellsLast text
two-spell [] text is spelled two = absurd (cc two)
two-spell (first ∷ []) text is spelled two = absurd (cc two)
two-spell (first ∷ name ∷ []) text is spelled two =
    record { path = record { names = first ∷ name ∷ [] }; is = is; spelled = same-rest (name_text name) text (sym (below-text first name is) ∙ spelled) }
two-spell (first ∷ name ∷ more ∷ names) text is spelled two = absurd (cc two)

-- The path leads right below the root, and its last name has this text.
record IsBelow (text : List ℕ) (names : List Name) : Type 0 where
  is : is_path names ≡ true
  spelled : names_text names ≡ codes "root/" ++ text
  two : length names ≡ 2

is-below : (name : Name) → (is_component name || is_executive name) ≡ true → IsBelow (name_text name) (top ∷ name ∷ [])
is-below name may = let is = may in record { is = is; spelled = below-text top name is; two = refl }

below-last : (first : Name) (names : List Name) → are_below (first ∷ names) ≡ true → (name : Name) × IsBelow (last_text (first ∷ names)) (top ∷ name ∷ [])
below-last first [] is = (first, is-below first is)
below-last first (name ∷ names) is = below-last name names (both (is_component first) (are_below (name ∷ names)) is).1

path-last : (names : List Name) → is_path names ≡ true → (name : Name) × IsBelow (last_text names) (top ∷ name ∷ [])
path-last [] is = absurd (cc is)
path-last (first ∷ []) is =
    let same = plain-is first (both (is_plain (codes "root") first) true is).0 in
    (top, subst (λ own. IsBelow (name_text own) (top ∷ top ∷ [])) (sym same) (is-below top refl))
path-last (first ∷ name ∷ names) is = below-last name names (both (is_plain (codes "root") first) (are_below (name ∷ names)) is).1

-- A text that is one of a last name is that of a path right below the root, when it stands behind `root/`.
pub last-is-below : (text : List ℕ) → SpellsLast text → (path : Path) × IsPath path × (path_text path ≡ codes "root/" ++ text) × (length path.names ≡ 2)
last-is-below text spells =
    let found = path-last spells.path.names spells.is in
    subst (λ text. (path : Path) × IsPath path × (path_text path ≡ codes "root/" ++ text) × (length path.names ≡ 2)) spells.spelled
    (record { names = top ∷ found.0 ∷ [] }, found.1.is, found.1.spelled, found.1.two)

-- where a path was read of it
pub spells-last : (text bytes : List ℕ) (path : Path) → bytes ≡ codes "root/" ++ text → IsPath path → path_text path ≡ bytes → length path.names ≡ 2 → SpellsLast text
spells-last text bytes path same is spelled two = two-spell path.names text is (spelled ∙ same) two

pub not-two : (text bytes : List ℕ) (path : Path) → bytes ≡ codes "root/" ++ text → ((other : Path) → IsPath other → path_text other ≡ bytes → other ≡ path) → length path.names ≢ 2 → ¬ SpellsLast text
not-two text bytes path same only many spells =
    let found = last-is-below text spells in
    many (ap (λ (own : Path). length own.names) (sym (only found.0 found.1 (found.2 ∙ sym same))) ∙ found.3)

pub not-below : (text bytes : List ℕ) → bytes ≡ codes "root/" ++ text → ((path : Path) → IsPath path → path_text path ≢ bytes) → ¬ SpellsLast text
not-below text bytes same none spells =
    let found = last-is-below text spells in
    none found.0 found.1 (found.2 ∙ sym same)
