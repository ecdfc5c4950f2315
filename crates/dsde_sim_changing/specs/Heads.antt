-- A walk over components and entries in the order of their names.
use Rattle.std.specs.Prelude.{Bool, false, List, [], ◌∷◌, if◌then◌else◌}
use Rattle.std.specs.Ordering.{is_lt}
use Rattle.dsde_values.specs.declared.name.Name.{Name}
use Rattle.dsde_values.specs.Path.{name_cmp}
use Rattle.dsde_sim_tree.specs.given.structure.plan_Entry.{Entry}
use Rattle.dsde_sim_tree.specs.given.structure.Survival.{survives as stays}
use Rattle.dsde_sim_tree.specs.declared.sim.Kid.{Kid}
use Rattle.dsde_sim_tree.specs.Tree.{entry_of}

-- the entries from a name on
abbrev pub from_name : Name → List Entry → List Entry
from_name name [] = []
from_name name (entry ∷ entries) = if is_lt (name_cmp entry.name name) then from_name name entries else (entry ∷ entries)

-- whether a component survives as the first of these entries
abbrev pub is_first : List Entry → Kid → Bool
is_first [] kid = false
is_first (entry ∷ entries) kid = stays (entry_of kid) entry
