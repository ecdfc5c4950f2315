-- What the parts of a move tell: a fact of each event, by what may be told there.
use Rattle.std.proofs.Common.{ℕ, ◌+◌, List, [], ◌∷◌, ◌++◌, map, Option, Some, None}
use Rattle.std.specs.List.{AllByRecursion}
use Rattle.dsde_values.specs.declared.name.Name.{Name}
use Rattle.dsde_values.specs.declared.path.Path.{Path}
use Rattle.dsde_values.specs.declared.value.Value.{Value}
use Rattle.dsde_values.specs.declared.when.When.{When}
use Rattle.dsde_sim_tree.specs.given.language.ids_ModelId.{ModelId}
use Rattle.dsde_sim_tree.specs.given.formalism.leaf_Leaf.{Leaf}
use Rattle.dsde_sim_tree.specs.given.formalism.leaf_MoveKind.{MoveKind}
use Rattle.dsde_sim_tree.specs.given.formalism.Leaf.{kind_of, move_leaf}
use Rattle.dsde_sim_tree.specs.given.formalism.System.{System, State, Ports}
use Rattle.dsde_sim_tree.specs.given.structure.plan_Entry.{Entry}
use Rattle.dsde_sim_tree.specs.given.structure.plan_Link.{Link}
use Rattle.dsde_sim_tree.specs.declared.event.Event.{Event}
use Rattle.dsde_sim_tree.specs.declared.event.Event.TheVariants.{Get, Move, Drop}
use Rattle.dsde_sim_tree.specs.Told.{below, Told, told, ◌then◌, at, to_boss}
use Rattle.dsde_sim_tree.specs.declared.sim.Kid.{Kid}
use Rattle.dsde_sim_tree.specs.declared.sim.Net.{Net}
use Rattle.dsde_sim_tree.specs.declared.sim.Sim.TheViews.{out-Kid}
use Rattle.dsde_sim_tree.specs.Move.{left_behind, gets_at, gets_from, take_move, move_leaf_at, drop_of, take_named, refill, refilled, gone, kept, change, replanned, after_boss, boss_moves}
use Rattle.dsde_sim_tree.specs.Start.{Starter, start, started_kid, net_of, structure_of}
use Rattle.dsde_sim_tree.specs.Tree.{parts_of_kid, parts_of_kids}
use Rattle.dsde_sim_movers.specs.lemmas.Events.{each-append, each-weaker, each-then}
use Rattle.dsde_sim_movers.proofs.Adds.{IsStart, start-starts, kid-starts}

module _ (system : System) (P : Event → Type 0) where
  -- a component or an executive at a path
  module _ (at_path : Path) (get : (model : ModelId) (port : ℕ) (value : Value) → P (Get at_path model port value)) (moves : (model : ModelId) (kind : MoveKind) (state : State) (next : When) → P (Move at_path model kind state next)) where
    values-told : (model : ModelId) (port : ℕ) (values : List Value) → AllByRecursion P (gets_at at_path model port values)
    values-told model port [] = tt
    values-told model port (value ∷ values) = (get model port value, values-told model port values)

    gets-told : (model : ModelId) (port : ℕ) (got : Ports) → AllByRecursion P (gets_from at_path model port got)
    gets-told model port [] = tt
    gets-told model port (values ∷ later) = each-append P (gets_at at_path model port values) (gets_from at_path model (port + 1) later) (values-told model port values) (gets-told model (port + 1) later)

    pub take-told : (leaf : Leaf) (kind : MoveKind) (time : ℕ) (got : Ports) → AllByRecursion P (take_move system leaf kind at_path time got).events
    take-told leaf kind time got =
        each-append P (gets_from at_path leaf.model 0 got) _ (gets-told leaf.model 0 got)
        (each-then P [] (at at_path (move_leaf system leaf kind time got)) _ tt (λ moved. (moves leaf.model kind moved.state moved.next, tt)))

    leaf-told-kind : (leaf : Leaf) (kind : Option MoveKind) (time : ℕ) (got : Ports) →
        (let step : Told Leaf = elim kind [ Some kind ↦ take_move system leaf kind at_path time got | None ↦ told [] leaf ] in AllByRecursion P step.events)
    leaf-told-kind leaf (Some kind) time got = take-told leaf kind time got
    leaf-told-kind leaf None time got = tt

    pub leaf-told : (leaf : Leaf) (time : ℕ) (got : Ports) → AllByRecursion P (move_leaf_at system leaf at_path time got).events
    leaf-told leaf time got = leaf-told-kind leaf (kind_of leaf time got) time got

  -- a change of the network at a path
  module _ (path : Path) (drops : (at : Path) (count : ℕ) → P (Drop at count)) (begins : (name : Name) (event : Event) → IsStart (below path name) event → P event) where
    drops-told : (kids : List Kid) → AllByRecursion P (map (drop_of path) kids)
    drops-told [] = tt
    drops-told (kid ∷ kids) = (drops (below path (out-Kid kid).name) (parts_of_kid kid), drops-told kids)

    abbrev starter : Starter
    starter = start system (left_behind path)

    refill-told-taken : (entry : Entry) (survivors : List Kid) (taken : Option (Kid × List Kid)) (time room : ℕ) →
        (let step : Told (Kid × List Kid × ℕ) = elim taken [
          | Some taken ↦ told [] (taken.0, taken.1, room)
          | None ↦ started_kid starter entry path time room then (λ one. told [] (one.0, survivors, one.1))
        ] in AllByRecursion P step.events)
    refill-told-taken entry survivors (Some taken) time room = tt
    refill-told-taken entry survivors None time room =
        let step = started_kid starter entry path time room in
        each-then P step.events step.end _
        (each-weaker (IsStart (below path entry.name)) P (begins entry.name) step.events
        (kid-starts system starter (start-starts system (left_behind path)) entry path time room))
        (λ one. tt)

    refilled-told : (entries : List Entry) (survivors : List Kid) (time room : ℕ) (done : List Kid) → AllByRecursion P (refilled starter entries survivors path time room done).events
    refilled-told [] survivors time room done = tt
    refilled-told (entry ∷ entries) survivors time room done =
        let step = refill starter entry survivors path time room in
        each-then P step.events step.end _
        (refill-told-taken entry survivors (take_named entry.name survivors) time room)
        (λ one. refilled-told entries one.1 time one.2 (done ++ one.0 ∷ []))

    pub change-told : (entries : List Entry) (kids : List Kid) (time room : ℕ) → AllByRecursion P (change system entries kids path time room).events
    change-told entries kids time room =
        each-append P (map (drop_of path) (gone entries kids)) _ (drops-told (gone entries kids))
        (refilled-told entries (kept entries kids) time (room + parts_of_kids (gone entries kids)) [])

    pub after_boss-told : (model : ModelId) (args : List Value) (kids : List Kid) (time room : ℕ) (boss : Leaf) → AllByRecursion P (after_boss system model args kids path time room boss).events
    after_boss-told model args kids time room boss =
        each-then P [] (structure_of system model args boss path) (replanned system model args boss kids path time room) tt (λ plan.
        let step = change system plan.entries kids path time room in
        each-then P step.events step.end _ (change-told plan.entries kids time room) (λ changed. tt))

  -- the executive of the network at a path, and the change that follows its move
  module _ (path : Path) (get : (model : ModelId) (port : ℕ) (value : Value) → P (Get (to_boss path) model port value)) (moves : (model : ModelId) (kind : MoveKind) (state : State) (next : When) → P (Move (to_boss path) model kind state next))
      (drops : (at : Path) (count : ℕ) → P (Drop at count)) (begins : (name : Name) (event : Event) → IsStart (below path name) event → P event) where
    boss-told-kind : (model : ModelId) (args : List Value) (boss : Leaf) (links : List Link) (kids : List Kid) (kind : Option MoveKind) → (time : ℕ) (got : Ports) (room : ℕ) →
        (let step : Told (Net × ℕ) = elim kind [
          | Some kind ↦ take_move system boss kind (to_boss path) time got then after_boss system model args kids path time room
          | None ↦ told [] (net_of model args boss kids links, room)
        ] in AllByRecursion P step.events)
    boss-told-kind model args boss links kids (Some kind) time got room =
        let step = take_move system boss kind (to_boss path) time got in
        each-then P step.events step.end (after_boss system model args kids path time room)
        (take-told (to_boss path) get moves boss kind time got) (after_boss-told path drops begins model args kids time room)
    boss-told-kind model args boss links kids None time got room = tt

    pub boss-told : (model : ModelId) (args : List Value) (boss : Leaf) (links : List Link) (kids : List Kid) → (time : ℕ) (got : Ports) (room : ℕ) →
        AllByRecursion P (boss_moves system model args boss links kids path time got room).events
    boss-told model args boss links kids time got room = boss-told-kind model args boss links kids (kind_of boss time got) time got room
