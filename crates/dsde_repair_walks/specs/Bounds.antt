-- How many items pass a test, and lists of handles that are distinct.
use Rattle.std.specs.Prelude.{ℕ, ◌≤◌, Bool, if◌then◌else◌, List, map}
use Rattle.dsde_bank.specs.declared.handle.Handle.{Handle}
use Rattle.std.specs.List.{AllByRecursion}
use Rattle.dsde_values.specs.declared.name.Name.{Name}
use Rattle.dsde_routes_wiring.specs.given.structure.Gather.{is_same_name}
use Rattle.dsde_routes_wiring.specs.declared.wiring.Wiring.{Wiring}
use Rattle.dsde_routes_wiring.specs.Wired.{is_same_handle, Shape, shapes}
use Rattle.dsde_repair_walks.specs.Weights.{weight}

abbrev pub counted : {X : Type 0} → (X → Bool) → X → ℕ
counted test x = if test x then 1 else 0

abbrev pub count : {X : Type 0} → (X → Bool) → List X → ℕ
count test xs = weight (counted test) xs

-- no handle stands twice
abbrev pub AreDistinct : List Handle → Type 0
AreDistinct handles = (handle : Handle) → count (is_same_handle handle) handles ≤ 1

-- no component of a network has the name of another
abbrev pub OneEach : List Name → Type 0
OneEach names = (name : Name) → count (λ own. is_same_name own name) names ≤ 1

abbrev pub IsNamed : Shape → Type 0
IsNamed net = OneEach (map (λ kid. kid.name) net.kids)

abbrev pub AreNamed : Wiring → Type 0
AreNamed wiring = AllByRecursion IsNamed (shapes wiring)
