-- The tree of simulators: how many parts it has, and when it is due.
use Rattle.std.specs.Prelude.{ℕ, ◌+◌, false, min, sum, map, List, [], ◌∷◌}
use Rattle.dsde_values.specs.declared.name.Name.{Name}
use Rattle.dsde_values.specs.declared.value.Value.{Value}
use Rattle.dsde_values.specs.declared.when.When.{When}
use Rattle.dsde_values.specs.declared.when.When.TheVariants.{At, Never}
use Rattle.dsde_language.specs.declared.ids.ModelId.{ModelId}
use Rattle.dsde_formalism.specs.given.structure.plan_Entry.{Entry}
use Rattle.dsde_sim_tree.specs.declared.sim.Kid.{Kid}
use Rattle.dsde_sim_tree.specs.declared.sim.Net.{Net}
use Rattle.dsde_sim_tree.specs.declared.sim.Sim.{Sim}
use Rattle.dsde_sim_tree.specs.declared.sim.Sim.TheFolds.{fold-Sim, fold-Kid, fold-Net}
use Rattle.dsde_sim_tree.specs.declared.sim.Sim.TheOpen.{Sim-F, Net-F, Kid-F}
use Rattle.dsde_sim_tree.specs.declared.sim.Sim.TheOpen as layer
use Rattle.dsde_sim_tree.specs.declared.sim.Sim.TheViews.{out-Sim, out-Kid, out-Net}

-- the parts of a simulator, by those of what is beneath it
abbrev pub parts_step : Sim-F ℕ ℕ ℕ → ℕ
parts_step (layer.Leaf leaf) = 1
parts_step (layer.Net net) = net

abbrev pub kid_parts : Kid-F ℕ ℕ ℕ → ℕ
kid_parts kid = kid.sim

abbrev pub net_parts : Net-F ℕ ℕ ℕ → ℕ
net_parts net = 2 + sum net.kids

-- how many atomic components, networks and executives there are
abbrev pub parts : Sim → ℕ
parts = fold-Sim ℕ ℕ ℕ parts_step kid_parts net_parts

abbrev pub parts_of_kid : Kid → ℕ
parts_of_kid = fold-Kid ℕ ℕ ℕ parts_step kid_parts net_parts

abbrev pub parts_of_net : Net → ℕ
parts_of_net = fold-Net ℕ ℕ ℕ parts_step kid_parts net_parts

abbrev pub parts_of_kids : List Kid → ℕ
parts_of_kids kids = sum (map parts_of_kid kids)

-- the earlier of two times
abbrev pub sooner : When → When → When
sooner (At time) (At other) = At (min time other)
sooner (At time) Never = At time
sooner Never other = other

abbrev pub soonest : When → List When → When
soonest first [] = first
soonest first (next ∷ others) = soonest (sooner first next) others

abbrev pub next_step : Sim-F When When When → When
next_step (layer.Leaf leaf) = leaf.next
next_step (layer.Net net) = net

abbrev pub next_kid : Kid-F When When When → When
next_kid kid = kid.sim

abbrev pub next_net : Net-F When When When → When
next_net net = soonest net.boss.next net.kids

-- the least time at which a component or an executive is due
abbrev pub next_time : Sim → When
next_time = fold-Sim When When When next_step next_kid next_net

abbrev pub next_of_kid : Kid → When
next_of_kid = fold-Kid When When When next_step next_kid next_net

-- the model and the arguments of a simulator
abbrev pub model_of : Sim → ModelId
model_of sim = elim (out-Sim sim) [ layer.Leaf leaf ↦ leaf.model | layer.Net net ↦ (out-Net net).model ]

abbrev pub args_of : Sim → List Value
args_of sim = elim (out-Sim sim) [ layer.Leaf leaf ↦ leaf.args | layer.Net net ↦ (out-Net net).args ]

-- the name of a component
abbrev pub name_of : Kid → Name
name_of kid = (out-Kid kid).name

-- The entry that a component of a network has by itself: its name, its model, and its own arguments. They
-- need not be those of the structure's entry where that one is soft. It is not soft itself, as nothing asks
-- whether an old entry is.
abbrev pub entry_of : Kid → Entry
entry_of kid = record { name = (out-Kid kid).name; model = model_of (out-Kid kid).sim; args = args_of (out-Kid kid).sim; soft = false }

-- the entry that a component has by itself which starts as this one
abbrev pub started_as : Entry → Entry
started_as entry = record { name = entry.name; model = entry.model; args = entry.args; soft = false }
