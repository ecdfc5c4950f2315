-- Types: whether two are the same, how deep one is, and what is one of them.
use Rattle.std.specs.Prelude.{ℕ, ◌+◌, ◌==◌, min, max, Bool, true, false, if◌then◌else◌, List, [], ◌∷◌, ◌++◌, Result, Ok, slice_get, unwrap_or}
use Rattle.dsde_values.specs.declared.types.Ty.{Ty, Ty-F, out-Ty, fold-Ty}
use Rattle.dsde_values.specs.declared.types.Ty.TheOpen as layer
use Rattle.dsde_values.specs.declared.types.Field.{Field}
use Rattle.dsde_values.specs.declared.types.Shape.{Shape}
use Rattle.dsde_values.specs.declared.types.Shape.TheVariants as shape
use Rattle.dsde_language.specs.declared.seen.Seen.{Seen}
use Rattle.dsde_language.specs.declared.wrong.Wrong.{Wrong}
use Rattle.dsde_language.specs.declared.wrong.WrongKind.TheVariants.{WrongType}
use Rattle.dsde_language.specs.Steps.{wrong, Test}

-- One type, with what its part answers of another type in its place.
abbrev pub same_step : Ty-F (Ty → Bool) → Ty-F Ty → Bool
same_step layer.Int layer.Int = true
same_step layer.Bool layer.Bool = true
same_step (layer.Enum one) (layer.Enum other) = one == other
same_step (layer.Rec one) (layer.Rec other) = one == other
same_step (layer.List part) (layer.List inner) = part inner
same_step (layer.Opt part) (layer.Opt inner) = part inner
same_step _ _ = false

-- whether two types are the same
unfoldable pub same : Ty → Ty → Bool
same = fold-Ty (Ty → Bool) (λ parts ty. same_step parts (out-Ty ty))

-- a depth, counted up to 65, which is above the limit
abbrev pub deeper : ℕ → ℕ
deeper depth = min depth 64 + 1

-- `int`, `bool` and enums have depth 0, `list` and `opt` one more than their part, and a record has
-- the depth that stands in its place among those of the types that are declared.
abbrev pub depth_step : List ℕ → Ty-F ℕ → ℕ
depth_step depths layer.Int = 0
depth_step depths layer.Bool = 0
depth_step depths (layer.Enum number) = 0
depth_step depths (layer.Rec number) = unwrap_or (slice_get depths number) 0
depth_step depths (layer.List part) = deeper part
depth_step depths (layer.Opt part) = deeper part

-- how deep a type is
unfoldable pub depth_of : List ℕ → Ty → ℕ
depth_of depths = fold-Ty ℕ (depth_step depths)

-- the deepest of some fields, and of what came before them
abbrev pub deepest : List ℕ → ℕ → List Field → ℕ
deepest depths depth [] = depth
deepest depths depth (field ∷ fields) = deepest depths (max depth (depth_of depths field.ty)) fields

-- a record is one deeper than its deepest field
abbrev pub shape_depth : List ℕ → Shape → ℕ
shape_depth depths (shape.Enum variants) = 0
shape_depth depths (shape.Rec fields) = deeper (deepest depths 0 fields)

-- the depths of types that are declared, each by those before it
abbrev pub depths_from : List ℕ → List Shape → List ℕ
depths_from depths [] = depths
depths_from depths (own ∷ shapes) = depths_from (depths ++ shape_depth depths own ∷ []) shapes

-- The type is the wanted one.
abbrev pub wanted : Ty → Seen → Test
wanted ty seen = if same ty seen.ty then Ok tt else wrong WrongType seen.at

-- the type of a list's items
abbrev pub item_type : Seen → Result Ty Wrong
item_type seen = elim (out-Ty seen.ty) [ layer.List inner ↦ Ok inner | _ ↦ wrong WrongType seen.at ]

-- the type of what an option holds
abbrev pub held_type : Seen → Result Ty Wrong
held_type seen = elim (out-Ty seen.ty) [ layer.Opt inner ↦ Ok inner | _ ↦ wrong WrongType seen.at ]
