-- The components that entries have after a change: survivors, and others that have started.
use Rattle.std.specs.Prelude.{List, [], ◌∷◌, Option, Some, None}
use Rattle.dsde_structure.specs.declared.plan.Entry.{Entry}
use Rattle.dsde_sim_tree.specs.declared.sim.Kid.{Kid}
use Rattle.dsde_sim_tree.specs.Move.{take_named}

-- the next of those that have started, and then what the others are
abbrev pub put_next : List Kid → (List Kid → List Kid) → List Kid
put_next [] later = later []
put_next (kid ∷ news) later = kid ∷ later news

abbrev pub placed_by : Option (Kid × List Kid) → (List Kid → List Kid → List Kid) → List Kid → List Kid → List Kid
placed_by (Some taken) later kids news = taken.0 ∷ later taken.1 news
placed_by None later kids news = put_next news (later kids)

-- for each entry the component of its name, or else the next of those that have started
abbrev pub placed : List Entry → List Kid → List Kid → List Kid
placed [] kids news = []
placed (own ∷ entries) kids news = placed_by (take_named own.name kids) (placed entries) kids news
