-- The components that a list or a map by name holds.
use Rattle.std.specs.Prelude.{List, map}
use Rattle.std.specs.BTreeMap.{IsOrdered}
use Rattle.dsde_values.specs.declared.name.Name.{Name}
use Rattle.dsde_values.specs.Path.{name_cmp}
use Rattle.dsde_executive_plans.specs.given.structure.plan_Entry.{Entry}
use Rattle.dsde_executive_plans.specs.given.structure.Survival.{IsInOrder}
use Rattle.dsde_executive_planner.specs.declared.entries.Chosen.{Chosen}
use Rattle.dsde_executive_planner.specs.declared.entries.Held.{Held}
use Rattle.dsde_executive_planner.specs.declared.entries.Held.TheVariants.{Few, Many}

-- the component that an entry of a map by name is
abbrev pub entry_of : Name × Chosen → Entry
entry_of own = record { name = own.0; model = own.1.model; args = own.1.args; soft = own.1.soft }

-- the components that are held
abbrev pub listed : Held → List Entry
listed (Few list) = list.items
listed (Many owns) = map entry_of owns.entries

-- they are in the order of their names
abbrev pub IsHeld : Held → Type 0
IsHeld (Few list) = IsInOrder list.items
IsHeld (Many owns) = IsOrdered name_cmp owns
