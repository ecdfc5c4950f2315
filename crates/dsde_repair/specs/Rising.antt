-- Lists that rise from each item to the next.
use Rattle.std.specs.Prelude.{◌≡◌, ◌<◌, List, [], ◌∷◌}
use Rattle.std.specs.declared.cmp.Ordering.TheVariants.{Less}
use Rattle.std.specs.List.{AllByRecursion}
use Rattle.dsde_bank.specs.declared.handle.Handle.{Handle}
use Rattle.dsde_values.specs.declared.name.Name.{Name}
use Rattle.dsde_values.specs.Path.{name_cmp}

-- a name comes before the first of these, if there is one
abbrev pub IsBefore : Name → List Name → Type 0
IsBefore name [] = Unit {0}
IsBefore name (next ∷ names) = name_cmp name next ≡ Less

-- a handle is older than the first of these, if there is one
abbrev pub IsOlder : Handle → List Handle → Type 0
IsOlder handle [] = Unit {0}
IsOlder handle (next ∷ handles) = handle.birth < next.birth

-- each handle is older than all later ones
abbrev pub AreRising : List Handle → Type 0
AreRising [] = Unit {0}
AreRising (handle ∷ handles) = AllByRecursion (λ other. handle.birth < other.birth) handles × AreRising handles
