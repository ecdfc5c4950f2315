-- A change of a network's structure, as the comparison of both structures tells it.
use Rattle.std.specs.Prelude.{ℕ, ◌+◌, Bool, if◌then◌else◌, List, [], ◌∷◌, ◌++◌, map, filter, Option, Some, None}
use Rattle.std.specs.List.{list_any}
use Rattle.dsde_values.specs.declared.name.Name.{Name}
use Rattle.dsde_values.specs.declared.path.Path.{Path}
use Rattle.dsde_sim_tree.specs.given.formalism.System.{System}
use Rattle.dsde_sim_tree.specs.given.structure.plan_Change.{Change}
use Rattle.dsde_sim_tree.specs.given.structure.plan_Entry.{Entry}
use Rattle.dsde_sim_tree.specs.given.structure.Gather.{is_same_name}
use Rattle.dsde_sim_tree.specs.given.structure.Survival.{names}
use Rattle.dsde_sim_tree.specs.Told.{Told, told, telling, ◌then◌}
use Rattle.dsde_sim_tree.specs.declared.sim.Kid.{Kid}
use Rattle.dsde_sim_tree.specs.declared.sim.Sim.TheViews.{out-Kid}
use Rattle.dsde_sim_tree.specs.Move.{drop_of, left_behind}
use Rattle.dsde_sim_tree.specs.Start.{Starter, start, started_kid}
use Rattle.dsde_sim_tree.specs.Tree.{parts_of_kids}

-- the components that have one of these names
abbrev pub those_called : List Name → List Kid → List Kid
those_called names kids = filter (λ kid. list_any (is_same_name (out-Kid kid).name) names) kids

-- the first component that has this name
abbrev pub first_called : Name → List Kid → Option Kid
first_called name [] = None
first_called name (kid ∷ kids) = if is_same_name (out-Kid kid).name name then Some kid else first_called name kids

-- an entry is one of those for which a component starts
abbrev pub is_fresh : Change → Entry → Bool
is_fresh change own = list_any (is_same_name own.name) (names change.fresh)

-- a component for an entry: one that starts, or the one of its name
abbrev pub placed : Starter → Entry → Option Kid → Path → ℕ → ℕ → Told (Kid × ℕ)
placed starter own None path time room = started_kid starter own path time room
placed starter own (Some kid) path time room = told [] (kid, room)

-- each entry has its component, behind those that are done: where it is fresh one that starts, and else
-- the one of its name
abbrev pub placed_each : Starter → Change → List Entry → List Kid → Path → ℕ → ℕ → List Kid → Told (List Kid × ℕ)
placed_each starter change [] kids path time room done = told [] (done, room)
placed_each starter change (own ∷ entries) kids path time room done =
    placed starter own (if is_fresh change own then None else first_called own.name kids) path time room then (λ one.
    placed_each starter change entries kids path time one.1 (done ++ one.0 ∷ []))

-- Components become those of a structure with these entries: those whose names are gone are dropped, which
-- gives their parts back to the room; then those of the fresh entries start, and the others stay.
abbrev pub changed_as : Change → System → List Entry → List Kid → Path → ℕ → ℕ → Told (List Kid × ℕ)
changed_as change system entries kids path time room =
    telling (map (drop_of path) (those_called change.gone kids)) (
    placed_each (start system (left_behind path)) change entries kids path time (room + parts_of_kids (those_called change.gone kids)) [])
