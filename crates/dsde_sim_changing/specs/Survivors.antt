-- A walk over entries and the components that survive as some of them, both in the order of their names.
use Rattle.std.specs.Prelude.{ℕ, Bool, false, List, [], ◌∷◌, Option, Some, None}
use Rattle.dsde_values.specs.declared.name.Name.{Name}
use Rattle.dsde_values.specs.declared.path.Path.{Path}
use Rattle.dsde_sim_tree.specs.given.structure.plan_Entry.{Entry}
use Rattle.dsde_sim_tree.specs.given.structure.Gather.{is_same_name}
use Rattle.dsde_sim_tree.specs.Told.{Told, told}
use Rattle.dsde_sim_tree.specs.declared.sim.Kid.{Kid}
use Rattle.dsde_sim_tree.specs.declared.sim.Sim.TheViews.{out-Kid}
use Rattle.dsde_sim_tree.specs.Tree.{parts_of_kid}
use Rattle.dsde_sim_tree.specs.Start.{Starter, started_kid}

-- whether the first of these components has this name
abbrev pub is_next : Name → List Kid → Bool
is_next name [] = false
is_next name (kid ∷ kids) = is_same_name (out-Kid kid).name name

-- an entry gets its survivor, or else a component that starts; and the room left
abbrev pub filled : Starter → Entry → Option Kid → Path → ℕ → ℕ → Told (Kid × ℕ)
filled starter own (Some kid) path time room = told [] (kid, room)
filled starter own None path time room = started_kid starter own path time room

-- the parts of a survivor
abbrev pub survivor_parts : Option Kid → ℕ
survivor_parts (Some kid) = parts_of_kid kid
survivor_parts None = 0
