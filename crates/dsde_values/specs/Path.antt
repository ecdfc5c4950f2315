-- The spelling and the order of names and paths.
use Rattle.std.specs.Prelude.{◌≡◌, ℕ, ◌^◌, Bool, true, false, ◌&&◌, ◌||◌, not, nat_lt, is_none, List, [], ◌∷◌, ◌++◌, Option, Some, None, codes, decimal}
use Rattle.std.specs.Cmp.Lexicographic.{slice_cmp}
use Rattle.std.specs.List.{flat_map}
use Rattle.std.specs.Option.{option_cmp}
use Rattle.std.specs.Ordering.{nat_cmp, bool_cmp, on, then_cmp}
use Rattle.std.specs.declared.cmp.Ordering.{Ordering}
use Rattle.std.specs.Str.{bytes_eq}
use Rattle.dsde_values.specs.declared.name.Name.{Name}
use Rattle.dsde_values.specs.declared.path.Path.{Path}
use Rattle.dsde_words.specs.Words.{is_word, is_reserved}

-- the path of the whole model
abbrev pub root : Path
root = record { names = record { stem = codes "root"; index = None } ∷ [] }

-- nothing, or an index in brackets
abbrev pub index_text : Option ℕ → List ℕ
index_text None = []
index_text (Some index) = 91 ∷ decimal index ++ 93 ∷ []

abbrev pub name_text : Name → List ℕ
name_text name = name.stem ++ index_text name.index

-- names joined by slashes
abbrev pub names_text : List Name → List ℕ
names_text [] = []
names_text (name ∷ names) = name_text name ++ flat_map (λ later. 47 ∷ name_text later) names

abbrev pub path_text : Path → List ℕ
path_text path = names_text path.names

-- no index, or one of 63 bits
abbrev pub is_index : Option ℕ → Bool
is_index None = true
is_index (Some index) = nat_lt index (2 ^ 63)

-- an identifier, and an index
abbrev pub is_name : Name → Bool
is_name name = is_word name.stem && is_index name.index

-- a name that a component may have: its identifier is no word of the language
abbrev pub is_component : Name → Bool
is_component name = is_name name && not (is_reserved name.stem)

-- this word, without an index
abbrev pub is_plain : List ℕ → Name → Bool
is_plain word name = bytes_eq name.stem word && is_none name.index

-- the name of an executive
abbrev pub EXEC : Name
EXEC = record { stem = codes "exec"; index = None }

abbrev pub is_executive : Name → Bool
is_executive = is_plain EXEC.stem

-- components' names, of which the last may be an executive's
abbrev pub are_below : List Name → Bool
are_below [] = true
are_below (name ∷ []) = is_component name || is_executive name
are_below (name ∷ names) = is_component name && are_below names

-- The first name is `root`, and the others are below it.
abbrev pub is_path : List Name → Bool
is_path [] = false
is_path (name ∷ names) = is_plain (codes "root") name && are_below names

-- a path that a model can have
abbrev pub IsPath : Path → Type 0
IsPath path = is_path path.names ≡ true

-- the executive's after all others; these by the identifier's bytes, then plain before indexed, and then by the index
abbrev pub name_cmp : Name → Name → Ordering
name_cmp = then_cmp (then_cmp (on is_executive bool_cmp) (on (λ name. name.stem) (slice_cmp nat_cmp))) (on (λ name. name.index) (option_cmp nat_cmp))

-- name by name, a prefix first
abbrev pub path_cmp : Path → Path → Ordering
path_cmp = on (λ path. path.names) (slice_cmp name_cmp)
