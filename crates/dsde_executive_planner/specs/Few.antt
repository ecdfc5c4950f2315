-- Where a component belongs among others in the order of their names.
use Rattle.std.specs.Prelude.{◌≡◌, ℕ, ◌≤◌, List, length, take, drop}
use Rattle.std.specs.List.{AllByRecursion}
use Rattle.std.specs.declared.cmp.Ordering.TheVariants.{Less, Greater}
use Rattle.dsde_values.specs.declared.name.Name.{Name}
use Rattle.dsde_values.specs.Path.{name_cmp}
use Rattle.dsde_executive_plans.specs.given.structure.plan_Entry.{Entry}

-- the names before this index come before the name, and those from it on behind it
abbrev pub IsFree : Name → List Entry → ℕ → Type 0
IsFree name entries index =
    (index ≤ length entries)
    × AllByRecursion (λ own. name_cmp own.name name ≡ Less) (take index entries)
    × AllByRecursion (λ own. name_cmp own.name name ≡ Greater) (drop index entries)
