-- The start of a part of the tree: what it tells, and the part with the room that is left. Room is
-- how many parts may still come alive.
use Rattle.std.specs.Prelude.{ℕ, zero, suc, Bool, true, false, if◌then◌else◌, List, [], ◌∷◌, ◌++◌, Result, Ok, Err}
use Rattle.dsde_values.specs.declared.name.Name.{Name}
use Rattle.dsde_values.specs.declared.path.Path.{Path}
use Rattle.dsde_values.specs.declared.value.Value.{Value}
use Rattle.dsde_language.specs.given.faults.kind_FaultKind_TheVariants.{TooDeep, Crowded}
use Rattle.dsde_language.specs.given.faults.kind_Site_TheVariants as site
use Rattle.dsde_language.specs.declared.ids.ModelId.{ModelId}
use Rattle.dsde_formalism.specs.declared.leaf.Leaf.{Leaf}
use Rattle.dsde_formalism.specs.System.{System}
use Rattle.dsde_formalism.specs.Leaf.{start_leaf}
use Rattle.dsde_formalism.specs.given.structure.plan_Entry.{Entry}
use Rattle.dsde_formalism.specs.given.structure.plan_Link.{Link}
use Rattle.dsde_formalism.specs.given.structure.plan_Plan.{Plan}
use Rattle.dsde_sim_tree.specs.declared.event.Event.TheVariants.{AddNet, AddLeaf}
use Rattle.dsde_sim_tree.specs.declared.fault.TurnEnd.{TurnEnd}
use Rattle.dsde_sim_tree.specs.declared.fault.TurnEnd.TheVariants.{Fault}
use Rattle.dsde_sim_tree.specs.Told.{Told, told, quietly, telling, ◌then◌, at, below, to_boss}
use Rattle.dsde_sim_tree.specs.declared.sim.Kid.{Kid}
use Rattle.dsde_sim_tree.specs.declared.sim.Net.{Net}
use Rattle.dsde_sim_tree.specs.declared.sim.Sim.{Sim}
use Rattle.dsde_sim_tree.specs.declared.sim.Sim.TheVariants as sim
use Rattle.dsde_sim_tree.specs.declared.sim.Sim.TheViews.{roll-Kid, roll-Net}

-- A part begins, of a model whose word stands at a place: where its path has too many names, or no room
-- is left, it faults there. Else it takes a part from the room. So many names may stand behind the path
-- it is in.
abbrev pub entered : ℕ → Path → ℕ → ℕ → Result ℕ TurnEnd
entered zero path at room = Err (Fault path site.Start TooDeep at)
entered (suc left) path at zero = Err (Fault path site.Start Crowded at)
entered (suc left) path at (suc room) = Ok room

-- a component of this name
abbrev pub kid_of : Name → Sim → Kid
kid_of name own = roll-Kid (record { name = name; sim = own })

-- a network of these parts
abbrev pub net_of : ModelId → List Value → Leaf → List Kid → List Link → Net
net_of model args boss kids links = roll-Net (record { model = model; args = args; boss = boss; kids = kids; links = links })

-- the start of an atomic component or of an executive
abbrev pub start_leaf_at : System → ℕ → ModelId → Bool → List Value → Path → ℕ → ℕ → Told (Leaf × ℕ)
start_leaf_at system left model boss args path time room =
    quietly (entered left path (system.component model args).at room) then (λ rest.
    quietly (at path (start_leaf system model boss args time)) then (λ leaf.
    told (AddLeaf path model leaf.state leaf.next ∷ []) (leaf, rest)))

-- how a part of a model with arguments starts at a path and a time, with this room
abbrev pub Starter : Type 0
Starter = ModelId → List Value → Path → ℕ → ℕ → Told (Sim × ℕ)

-- an entry starts as a component of the network at a path
abbrev pub started_kid : Starter → Entry → Path → ℕ → ℕ → Told (Kid × ℕ)
started_kid starter entry path time room =
    starter entry.model entry.args (below path entry.name) time room then (λ started.
    told [] (kid_of entry.name started.0, started.1))

-- the components of a structure start in the order of their names, behind those that are done
abbrev pub starts : Starter → List Entry → Path → ℕ → ℕ → List Kid → Told (List Kid × ℕ)
starts starter [] path time room done = told [] (done, room)
starts starter (entry ∷ entries) path time room done =
    started_kid starter entry path time room then (λ one.
    starts starter entries path time one.1 (done ++ one.0 ∷ []))

-- the structure that goes with the state of an executive
abbrev pub structure_of : System → ModelId → List Value → Leaf → Path → Result Plan TurnEnd
structure_of system model args boss path = at (to_boss path) ((system.network model args).structure boss.state)

-- a network whose executive has started and has given it a plan: its components start
abbrev pub with_plan : Starter → ModelId → List Value → Leaf → Path → ℕ → ℕ → Plan → Told (Net × ℕ)
with_plan starter model args boss path time room plan =
    starts starter plan.entries path time room [] then (λ kids.
    told [] (net_of model args boss kids.0 plan.links, kids.1))

-- a network whose executive has started: its structure is taken
abbrev pub with_boss : System → Starter → ModelId → List Value → Path → ℕ → Leaf × ℕ → Told (Net × ℕ)
with_boss system starter model args path time boss =
    quietly (structure_of system model args boss.0 path) then with_plan starter model args boss.0 path time boss.1

-- the start of a network that has its room: its executive, and then the components of its structure
abbrev pub start_net : System → ℕ → Starter → ModelId → List Value → Path → ℕ → ℕ → Told (Net × ℕ)
start_net system left starter model args path time room =
    telling (AddNet path model ∷ []) (
    start_leaf_at system left model true args (to_boss path) time room then with_boss system starter model args path time)

-- a network's start
abbrev pub start_net_at : System → ℕ → Starter → ModelId → List Value → Path → ℕ → ℕ → Told (Sim × ℕ)
start_net_at system left starter model args path time room =
    quietly (entered (suc left) path (system.network model args).at room) then (λ rest.
    start_net system left starter model args path time rest then (λ net.
    told [] (sim.Net net.0, net.1)))

-- the start of an atomic component
abbrev pub start_atomic : System → ℕ → ModelId → List Value → Path → ℕ → ℕ → Told (Sim × ℕ)
start_atomic system left model args path time room =
    start_leaf_at system left model false args path time room then (λ leaf. told [] (sim.Leaf leaf.0, leaf.1))

-- the place of the word of a model
abbrev pub place_of : System → ModelId → List Value → ℕ
place_of system model args = if system.is_network model then (system.network model args).at else (system.component model args).at

-- A part's start, where so many names may stand behind the path that it is in.
abbrev pub start : System → ℕ → Starter
start system zero model args path time room = quietly (Err (Fault path site.Start TooDeep (place_of system model args)))
start system (suc left) model args path time room =
    if system.is_network model
    then start_net_at system left (start system left) model args path time room
    else start_atomic system (suc left) model args path time room
