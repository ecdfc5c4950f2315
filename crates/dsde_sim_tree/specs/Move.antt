-- The move message: what a part of the tree receives at a time, how it moves, and how the structure of
-- a network changes with a move of its executive (F. J. Barros, "Abstract Simulators for the DSDE
-- Formalism", WSC 1998). That components move before their executive, each in the order of names, and
-- what survives a change, is this project's profile.
use Rattle.std.specs.Prelude.{ℕ, ◌+◌, ◌-◌, not, Bool, if◌then◌else◌, List, [], ◌∷◌, ◌++◌, length, map, filter, Option, Some, None}
use Rattle.std.specs.List.{list_any}
use Rattle.dsde_values.specs.declared.name.Name.{Name}
use Rattle.dsde_values.specs.declared.path.Path.{Path}
use Rattle.dsde_values.specs.declared.value.Value.{Value}
use Rattle.dsde_language.specs.declared.ids.ModelId.{ModelId}
use Rattle.dsde_formalism.specs.declared.leaf.Leaf.{Leaf}
use Rattle.dsde_formalism.specs.declared.leaf.MoveKind.{MoveKind}
use Rattle.dsde_formalism.specs.System.{System, Ports}
use Rattle.dsde_formalism.specs.Leaf.{component_of, kind_of, move_leaf}
use Rattle.dsde_formalism.specs.given.structure.plan_Entry.{Entry}
use Rattle.dsde_formalism.specs.given.structure.plan_Link.{Link}
use Rattle.dsde_formalism.specs.given.structure.plan_Part_TheVariants as part
use Rattle.dsde_formalism.specs.given.structure.plan_Plan.{Plan}
use Rattle.dsde_formalism.specs.given.structure.sources_Sources.{Sources}
use Rattle.dsde_formalism.specs.given.structure.Gather.{gathered, is_same_name}
use Rattle.dsde_formalism.specs.given.structure.Survival as entry
use Rattle.dsde_sim_tree.specs.declared.event.Event.{Event}
use Rattle.dsde_sim_tree.specs.declared.event.Event.TheVariants.{Get, Move, Drop}
use Rattle.dsde_sim_tree.specs.Told.{Told, told, quietly, telling, ◌then◌, at, below, to_boss}
use Rattle.dsde_sim_tree.specs.declared.sim.TheConstants.{DEEPEST}
use Rattle.dsde_sim_tree.specs.declared.sim.Kid.{Kid}
use Rattle.dsde_sim_tree.specs.declared.sim.Net.{Net}
use Rattle.dsde_sim_tree.specs.declared.sim.Sim.{Sim}
use Rattle.dsde_sim_tree.specs.declared.sim.Sim.TheVariants as sim
use Rattle.dsde_sim_tree.specs.declared.sim.Sim.TheFolds.{para-Sim, para-Kid, para-Net}
use Rattle.dsde_sim_tree.specs.declared.sim.Sim.TheViews.{out-Sim, out-Kid, out-Net}
use Rattle.dsde_sim_tree.specs.declared.sim.Sim.TheOpen.{Sim-F, Net-F, Kid-F}
use Rattle.dsde_sim_tree.specs.declared.sim.Sim.TheOpen as layer
use Rattle.dsde_sim_tree.specs.Tree.{entry_of, parts_of_kid, parts_of_kids}
use Rattle.dsde_sim_tree.specs.Output.{KidAnswer, sources_of, kid_output}
use Rattle.dsde_sim_tree.specs.Start.{Starter, start, started_kid, kid_of, net_of, structure_of}

-- what a component or an executive receives at one port
abbrev pub gets_at : Path → ModelId → ℕ → List Value → List Event
gets_at path model port values = map (λ value. Get path model port value) values

-- what it receives at the ports from this number on
abbrev pub gets_from : Path → ModelId → ℕ → Ports → List Event
gets_from path model port [] = []
gets_from path model port (values ∷ later) = gets_at path model port values ++ gets_from path model (port + 1) later

-- a component or an executive receives, and takes this transition
abbrev pub take_move : System → Leaf → MoveKind → Path → ℕ → Ports → Told Leaf
take_move system leaf kind path time got =
    telling (gets_from path leaf.model 0 got) (
    quietly (at path (move_leaf system leaf kind time got)) then (λ moved.
    told (Move path leaf.model kind moved.state moved.next ∷ []) moved))

-- a component that is not due and received nothing stays as it is
abbrev pub move_leaf_at : System → Leaf → Path → ℕ → Ports → Told Leaf
move_leaf_at system leaf path time got = elim (kind_of leaf time got) [
  | Some kind ↦ take_move system leaf kind path time got
  | None ↦ told [] leaf
]

-- how many in ports a part has
abbrev pub ins_of : System → Sim → ℕ
ins_of system own = elim (out-Sim own) [
  | layer.Leaf leaf ↦ (component_of system leaf).ins
  | layer.Net net ↦ (system.network (out-Net net).model (out-Net net).args).ins
]

-- A component survives a change to a structure that has an entry of its name and model which is soft or has
-- its arguments. It stays as it is, with its own arguments.
abbrev pub survives : List Entry → Kid → Bool
survives entries kid = list_any (entry.survives (entry_of kid)) entries

-- the components that survive a change, and those that it drops
abbrev pub kept : List Entry → List Kid → List Kid
kept entries kids = filter (survives entries) kids

abbrev pub gone : List Entry → List Kid → List Kid
gone entries kids = filter (λ kid. not (survives entries kid)) kids

-- a component is dropped with all its parts
abbrev pub drop_of : Path → Kid → Event
drop_of path kid = Drop (below path (out-Kid kid).name) (parts_of_kid kid)

-- the first component of this name, and the others
abbrev pub take_named : Name → List Kid → Option (Kid × List Kid)
take_named name [] = None
take_named name (kid ∷ kids) =
    if is_same_name (out-Kid kid).name name
    then Some (kid, kids)
    else (elim (take_named name kids) [ Some taken ↦ Some (taken.0, kid ∷ taken.1) | None ↦ None ])

-- for an entry the survivor of its name, or else a component that starts; the other survivors, and the
-- room left
abbrev pub refill : Starter → Entry → List Kid → Path → ℕ → ℕ → Told (Kid × List Kid × ℕ)
refill starter own kids path time room = elim (take_named own.name kids) [
  | Some taken ↦ told [] (taken.0, taken.1, room)
  | None ↦ started_kid starter own path time room then (λ one. told [] (one.0, kids, one.1))
]

-- the entries get their components in the order of their names, behind those that are done
abbrev pub refilled : Starter → List Entry → List Kid → Path → ℕ → ℕ → List Kid → Told (List Kid × ℕ)
refilled starter [] kids path time room done = told [] (done, room)
refilled starter (own ∷ entries) kids path time room done =
    refill starter own kids path time room then (λ one.
    refilled starter entries one.1 path time one.2 (done ++ one.0 ∷ []))

-- how many names may stand behind a path
abbrev pub left_behind : Path → ℕ
left_behind path = DEEPEST - length path.names

-- The components of a network become those of a structure: those that do not survive are dropped, which
-- gives their parts back to the room, and then what is new starts.
abbrev pub change : System → List Entry → List Kid → Path → ℕ → ℕ → Told (List Kid × ℕ)
change system entries kids path time room =
    telling (map (drop_of path) (gone entries kids)) (
    refilled (start system (left_behind path)) entries (kept entries kids) path time (room + parts_of_kids (gone entries kids)) [])

-- how a part moves at a path and a time with what it received, with this room, and the room left
abbrev pub Moves : Type 0
Moves = Path → ℕ → Ports → ℕ → Told (Sim × ℕ)

abbrev pub NetMoves : Type 0
NetMoves = Path → ℕ → Ports → ℕ → Told (Net × ℕ)

abbrev pub KidMoves : Type 0
KidMoves = Path → ℕ → List Link → Sources → ℕ → Told (Kid × ℕ)

-- components move in the order of their names, behind those that have
abbrev pub moved : List KidMoves → Path → ℕ → List Link → Sources → ℕ → List Kid → Told (List Kid × ℕ)
moved [] path time links sources room done = told [] (done, room)
moved (kid ∷ kids) path time links sources room done =
    kid path time links sources room then (λ one.
    moved kids path time links sources one.1 (done ++ one.0 ∷ []))

-- a network whose executive has moved and has given it a plan
abbrev pub replanned : System → ModelId → List Value → Leaf → List Kid → Path → ℕ → ℕ → Plan → Told (Net × ℕ)
replanned system model args boss kids path time room plan =
    change system plan.entries kids path time room then (λ changed.
    told [] (net_of model args boss changed.0 plan.links, changed.1))

-- a network whose executive has moved: the structure of its new state is taken
abbrev pub after_boss : System → ModelId → List Value → List Kid → Path → ℕ → ℕ → Leaf → Told (Net × ℕ)
after_boss system model args kids path time room boss =
    quietly (structure_of system model args boss path) then replanned system model args boss kids path time room

-- a network whose components have moved: its executive moves, and where it did, its structure follows
abbrev pub boss_moves : System → ModelId → List Value → Leaf → List Link → List Kid → Path → ℕ → Ports → ℕ → Told (Net × ℕ)
boss_moves system model args boss links kids path time got room = elim (kind_of boss time got) [
  | Some kind ↦ take_move system boss kind (to_boss path) time got then after_boss system model args kids path time room
  | None ↦ told [] (net_of model args boss kids links, room)
]

abbrev pub move_step : System → Sim-F (Sim × Moves) (Kid × KidMoves) (Net × NetMoves) → Moves
move_step system (layer.Leaf leaf) path time got room =
    move_leaf_at system leaf path time got then (λ after. told [] (sim.Leaf after, room))
move_step system (layer.Net net) path time got room =
    net.1 path time got room then (λ after. told [] (sim.Net after.0, after.1))

-- a component of a name moves as a part does, with what its links carry
abbrev pub moved_kid : System → Name → Sim → Moves → KidMoves
moved_kid system name own moves path time links sources room =
    moves (below path name) time (gathered system.translate links sources (part.Kid name) (ins_of system own)) room then (λ after.
    told [] (kid_of name after.0, after.1))

abbrev pub move_kid : System → Kid-F (Sim × Moves) (Kid × KidMoves) (Net × NetMoves) → KidMoves
move_kid system kid = moved_kid system kid.name kid.sim.0 kid.sim.1

-- a network whose components have moved, with what its links carry
abbrev pub after_kids : System → ModelId → List Value → Leaf → List Link → Path → ℕ → Sources → List Kid × ℕ → Told (Net × ℕ)
after_kids system model args boss links path time sources kids =
    boss_moves system model args boss links kids.0 path time
    (gathered system.translate links sources part.Boss (component_of system boss).ins) kids.1

-- a network that knows what its links carry from: its components move, and then its executive
abbrev pub with_sources : System → ModelId → List Value → Leaf → List KidMoves → List Link → Path → ℕ → ℕ → Sources → Told (Net × ℕ)
with_sources system model args boss moves links path time room sources =
    moved moves path time links sources room [] then after_kids system model args boss links path time sources

-- A network moves, by what its components answer to an output message and to a move message. All is
-- gathered over the links and the outputs before the moves.
abbrev pub net_moves : System → ModelId → List Value → Leaf → List KidAnswer → List KidMoves → List Link → NetMoves
net_moves system model args boss answers moves links path time got room =
    quietly (sources_of system answers boss path time got) then
    with_sources system model args boss moves links path time room

abbrev pub move_net : System → Net-F (Sim × Moves) (Kid × KidMoves) (Net × NetMoves) → NetMoves
move_net system net =
    net_moves system net.model net.args net.boss (map (λ kid. kid_output system kid.0) net.kids) (map (λ kid. kid.1) net.kids) net.links

-- how a part moves
abbrev pub move : System → Sim → Moves
move system = para-Sim Moves KidMoves NetMoves (move_step system) (move_kid system) (move_net system)

abbrev pub kid_move : System → Kid → KidMoves
kid_move system = para-Kid Moves KidMoves NetMoves (move_step system) (move_kid system) (move_net system)

abbrev pub net_move : System → Net → NetMoves
net_move system = para-Net Moves KidMoves NetMoves (move_step system) (move_kid system) (move_net system)
