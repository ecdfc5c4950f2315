-- Parts of the tree: their starts, what they send, their moves and their changes.
use Rattle.std.proofs.Common.{ℕ, zero, suc, ◌-◌, ◌+◌, Bool, true, false, List, [], ◌∷◌, ◌++◌, map, Option, Some, None, Ok, sym, subst}
use Rattle.std.specs.Prelude.{◌<◌, if◌then◌else◌}
use Rattle.std.specs.List.{AllByRecursion}
use Rattle.dsde_values.specs.declared.path.Path.{Path}
use Rattle.dsde_values.specs.declared.value.Value.{Value}
use Rattle.dsde_language.specs.declared.ids.ModelId.{ModelId}
use Rattle.dsde_faults.specs.declared.end.LeafEnd.{LeafEnd}
use Rattle.dsde_formalism.specs.declared.leaf.Leaf.{Leaf}
use Rattle.dsde_formalism.specs.declared.leaf.MoveKind.{MoveKind}
use Rattle.dsde_formalism.specs.declared.leaf.MoveKind.TheVariants.{Internal, External, Confluent}
use Rattle.dsde_formalism.specs.System.{State, Ports, System}
use Rattle.dsde_formalism.specs.Leaf.{component_of, settled, start_leaf, is_due, output_leaf, sent_at, kind_of, transition, move_leaf}
use Rattle.dsde_structure.specs.declared.sources.Given.{Given}
use Rattle.dsde_structure.specs.declared.plan.Entry.{Entry}
use Rattle.dsde_structure.specs.declared.plan.Link.{Link}
use Rattle.dsde_structure.specs.declared.plan.Part.TheVariants as part
use Rattle.dsde_structure.specs.declared.sources.Sources.{Sources}
use Rattle.dsde_structure.specs.Gather.{gathered}
use Rattle.dsde_sim_tree.specs.declared.fault.TurnEnd.{TurnEnd}
use Rattle.dsde_sim_tree.specs.Told.{Told, told, quietly, ◌then◌, at, below, to_boss}
use Rattle.dsde_sim_tree.specs.declared.sim.Kid.{Kid}
use Rattle.dsde_sim_tree.specs.declared.sim.Net.{Net}
use Rattle.dsde_sim_tree.specs.declared.sim.Sim.{Sim}
use Rattle.dsde_sim_tree.specs.declared.sim.Sim.TheVariants as sim
use Rattle.dsde_sim_tree.specs.declared.sim.Sim.TheViews.{out-Kid, out-Net}
use Rattle.dsde_sim_tree.specs.Opened.{as_leaf, as_net, kid_move-opens, move-Leaf, move-Net, net_move-opens}
use Rattle.dsde_sim_tree.specs.Output.{by_port, sent, asked, kid_output, output, sources_of}
use Rattle.dsde_sim_tree.specs.Start.{Starter, entered, kid_of, net_of, start, start_atomic, start_leaf_at, start_net, start_net_at, started_kid, starts, structure_of, with_boss, with_plan}
use Rattle.dsde_sim_tree.specs.Move.{after_boss, after_kids, change, gone, ins_of, kept, kid_move, left_behind, move, move_leaf_at, moved, net_move, net_moves, refill, refilled, replanned, take_move, take_named, with_sources}
use Rattle.dsde_sim_tree.specs.Tree.{parts_of_kids}
use Rattle.dsde_sim_tree.specs.lemmas.Trees.{each_tree}
use Rattle.dsde_cli_spots.specs.Placed.{Ends, IsLeafBelow, IsSystemBelow}
use Rattle.dsde_cli_spots.proofs.Opens.{output-Leaf, output-Net, output-kid}
use Rattle.dsde_cli_spots.proofs.Steps.{IsTurnBelow, at-below, bind-ends, if-ends, then-ends}

module _ (n : ℕ) (system : System) (near : IsSystemBelow n system) where
  abbrev C : LeafEnd → Type 0
  C = IsLeafBelow n

  abbrev T : TurnEnd → Type 0
  T = IsTurnBelow n

  -- ---- components

  settles : (model : ModelId) (boss : Bool) (args : List Value) (state : State) (time : ℕ) → Ends C (settled system model boss args state time)
  settles model boss args state time =
      bind-ends C ((system.component model args).advance state time) (λ next. Ok (record { model = model; boss = boss; args = args; state = state; last = time; next = next }))
      ((near.component model args).advance state time) (λ next. tt)

  leaf-starts : (model : ModelId) (boss : Bool) (args : List Value) (time : ℕ) → Ends C (start_leaf system model boss args time)
  leaf-starts model boss args time =
      bind-ends C (system.component model args).init (λ state. settled system model boss args state time) (near.component model args).init (λ state. settles model boss args state time)

  leaf-sends : (leaf : Leaf) (time : ℕ) → Ends C (sent system leaf time)
  leaf-sends leaf time =
      bind-ends C (sent_at system leaf time) (λ items. Ok (by_port (component_of system leaf).outs items))
      (if-ends C (is_due leaf time) (output_leaf system leaf) (Ok []) ((near.component leaf.model leaf.args).output leaf.state) tt) (λ items. tt)

  moves-by : (leaf : Leaf) (kind : MoveKind) (elapsed : ℕ) (got : Ports) → Ends C (transition (component_of system leaf) leaf.state kind elapsed got)
  moves-by leaf Internal elapsed got = (near.component leaf.model leaf.args).internal leaf.state
  moves-by leaf External elapsed got = (near.component leaf.model leaf.args).external leaf.state elapsed got
  moves-by leaf Confluent elapsed got = (near.component leaf.model leaf.args).confluent leaf.state elapsed got

  leaf-moves : (leaf : Leaf) (kind : MoveKind) (time : ℕ) (got : Ports) → Ends C (move_leaf system leaf kind time got)
  leaf-moves leaf kind time got =
      bind-ends C (transition (component_of system leaf) leaf.state kind (time - leaf.last) got) (λ state. settled system leaf.model leaf.boss leaf.args state time)
      (moves-by leaf kind (time - leaf.last) got) (λ state. settles leaf.model leaf.boss leaf.args state time)

  -- ---- starts

  enters : (left : ℕ) (path : Path) (place : ℕ) → place < n → (room : ℕ) → Ends T (entered left path place room)
  enters zero path place less room = less
  enters (suc left) path place less zero = less
  enters (suc left) path place less (suc room) = tt

  starts-at : (left : ℕ) (model : ModelId) (boss : Bool) (args : List Value) (path : Path) (time room : ℕ) → Ends T (start_leaf_at system left model boss args path time room).end
  starts-at left model boss args path time room =
      then-ends T (quietly (entered left path (system.component model args).at room)) _ (enters left path (system.component model args).at (near.component model args).place room) (λ rest.
      then-ends T (quietly (at path (start_leaf system model boss args time))) _ (at-below n path (start_leaf system model boss args time) (leaf-starts model boss args time)) (λ leaf. tt))

  abbrev Starts : Starter → Type 0
  Starts starter = (model : ModelId) (args : List Value) (path : Path) (time room : ℕ) → Ends T (starter model args path time room).end

  kid-starts : (starter : Starter) → Starts starter → (entry : Entry) (path : Path) (time room : ℕ) → Ends T (started_kid starter entry path time room).end
  kid-starts starter own entry path time room =
      then-ends T (starter entry.model entry.args (below path entry.name) time room) (λ started. told [] (kid_of entry.name started.0, started.1)) (own entry.model entry.args (below path entry.name) time room) (λ started. tt)

  kids-start : (starter : Starter) → Starts starter → (entries : List Entry) (path : Path) (time room : ℕ) (done : List Kid) → Ends T (starts starter entries path time room done).end
  kids-start starter own [] path time room done = tt
  kids-start starter own (entry ∷ entries) path time room done =
      then-ends T (started_kid starter entry path time room) (λ one. starts starter entries path time one.1 (done ++ one.0 ∷ [])) (kid-starts starter own entry path time room)
      (λ one. kids-start starter own entries path time one.1 (done ++ one.0 ∷ []))

  structures : (model : ModelId) (args : List Value) (boss : Leaf) (path : Path) → Ends T (structure_of system model args boss path)
  structures model args boss path = at-below n (to_boss path) ((system.network model args).structure boss.state) ((near.network model args).structure boss.state)

  net-starts : (left : ℕ) (starter : Starter) → Starts starter → (model : ModelId) (args : List Value) (path : Path) (time room : ℕ) → Ends T (start_net system left starter model args path time room).end
  net-starts left starter own model args path time room =
      then-ends T (start_leaf_at system left model true args (to_boss path) time room) (with_boss system starter model args path time) (starts-at left model true args (to_boss path) time room) (λ boss.
      then-ends T (quietly (structure_of system model args boss.0 path)) (with_plan starter model args boss.0 path time boss.1) (structures model args boss.0 path) (λ plan.
      then-ends T (starts starter plan.entries path time boss.1 []) (λ kids. told [] (net_of model args boss.0 kids.0 plan.links, kids.1)) (kids-start starter own plan.entries path time boss.1 []) (λ kids. tt)))

  net-starts-at : (left : ℕ) (starter : Starter) → Starts starter → (model : ModelId) (args : List Value) (path : Path) (time room : ℕ) → Ends T (start_net_at system left starter model args path time room).end
  net-starts-at left starter own model args path time room =
      then-ends T (quietly (entered (suc left) path (system.network model args).at room)) _ (enters (suc left) path (system.network model args).at (near.network model args).place room) (λ rest.
      then-ends T (start_net system left starter model args path time rest) (λ net. told [] (sim.Net net.0, net.1)) (net-starts left starter own model args path time rest) (λ net. tt))

  atomic-starts : (left : ℕ) (model : ModelId) (args : List Value) (path : Path) (time room : ℕ) → Ends T (start_atomic system left model args path time room).end
  atomic-starts left model args path time room =
      then-ends T (start_leaf_at system left model false args path time room) (λ leaf. told [] (sim.Leaf leaf.0, leaf.1)) (starts-at left model false args path time room) (λ leaf. tt)

  place-by : (test : Bool) (one other : ℕ) → one < n → other < n → (if test then one else other) < n
  place-by true one other own else_own = own
  place-by false one other own else_own = else_own

  either : {A : Type 0} (test : Bool) (one other : Told A) → Ends T one.end → Ends T other.end → Ends T (if test then one else other).end
  either true one other own else_own = own
  either false one other own else_own = else_own

  pub part-starts : (left : ℕ) → Starts (start system left)
  part-starts zero model args path time room = place-by (system.is_network model) (system.network model args).at (system.component model args).at (near.network model args).place (near.component model args).place
  part-starts (suc left) model args path time room =
      either (system.is_network model) (start_net_at system left (start system left) model args path time room) (start_atomic system (suc left) model args path time room)
      (net-starts-at left (start system left) (part-starts left) model args path time room) (atomic-starts (suc left) model args path time room)

  -- ---- changes

  refills-by : (starter : Starter) → Starts starter → (taken : Option (Kid × List Kid)) (own : Entry) (kids : List Kid) (path : Path) (time room : ℕ)
      → Ends T (let step : Told (Kid × List Kid × ℕ) = elim taken [
        | Some taken ↦ told [] (taken.0, taken.1, room)
        | None ↦ started_kid starter own path time room then (λ one. told [] (one.0, kids, one.1))
      ] in step.end)
  refills-by starter starts (Some taken) own kids path time room = tt
  refills-by starter starts None own kids path time room =
      then-ends T (started_kid starter own path time room) (λ one. told [] (one.0, kids, one.1)) (kid-starts starter starts own path time room) (λ one. tt)

  refills : (starter : Starter) → Starts starter → (entries : List Entry) (kids : List Kid) (path : Path) (time room : ℕ) (done : List Kid) → Ends T (refilled starter entries kids path time room done).end
  refills starter starts [] kids path time room done = tt
  refills starter starts (own ∷ entries) kids path time room done =
      then-ends T (refill starter own kids path time room) (λ one. refilled starter entries one.1 path time one.2 (done ++ one.0 ∷ [])) (refills-by starter starts (take_named own.name kids) own kids path time room)
      (λ one. refills starter starts entries one.1 path time one.2 (done ++ one.0 ∷ []))

  changes : (entries : List Entry) (kids : List Kid) (path : Path) (time room : ℕ) → Ends T (change system entries kids path time room).end
  changes entries kids path time room =
      refills (start system (left_behind path)) (part-starts (left_behind path)) entries (kept entries kids) path time (room + parts_of_kids (gone entries kids)) []

  -- ---- what parts send

  abbrev Answers : Sim → Type 0
  Answers own = (path : Path) (time : ℕ) → Ends T (output system own path time)

  kid-answers : (kid : Kid) → Answers (out-Kid kid).sim → (path : Path) (time : ℕ) → Ends T (kid_output system kid path time)
  kid-answers kid own path time =
      subst (Ends T) (sym (output-kid system kid path time))
      (bind-ends T (output system (out-Kid kid).sim (below path (out-Kid kid).name) time) (λ ports. let given : Given = record { name = (out-Kid kid).name; ports = ports } in Ok given)
      (own (below path (out-Kid kid).name) time) (λ ports. tt))

  kids-answer : (kids : List Kid) → AllByRecursion (λ (kid : Kid). Answers (out-Kid kid).sim) kids → (path : Path) (time : ℕ) (done : List Given) → Ends T (asked (map (kid_output system) kids) path time done)
  kids-answer [] all path time done = tt
  kids-answer (kid ∷ kids) all path time done =
      bind-ends T (kid_output system kid path time) (λ given. asked (map (kid_output system) kids) path time (done ++ given ∷ [])) (kid-answers kid all.0 path time)
      (λ given. kids-answer kids all.1 path time (done ++ given ∷ []))

  sources-by : (kids : List Kid) → AllByRecursion (λ (kid : Kid). Answers (out-Kid kid).sim) kids → (boss : Leaf) (path : Path) (time : ℕ) (got : Ports) → Ends T (sources_of system (map (kid_output system) kids) boss path time got)
  sources-by kids all boss path time got =
      bind-ends T (asked (map (kid_output system) kids) path time []) _ (kids-answer kids all path time []) (λ given.
      bind-ends T (at (to_boss path) (sent system boss time)) (λ own. let sources : Sources = record { net = got; boss = own; kids = given } in Ok sources)
      (at-below n (to_boss path) (sent system boss time) (leaf-sends boss time)) (λ own. tt))

  leaf-answers : (leaf : Leaf) → Answers (sim.Leaf leaf)
  leaf-answers leaf path time = subst (Ends T) (sym (output-Leaf system leaf path time)) (at-below n path (sent system leaf time) (leaf-sends leaf time))

  net-answers : (net : Net) → AllByRecursion (λ (kid : Kid). Answers (out-Kid kid).sim) (out-Net net).kids → Answers (sim.Net net)
  net-answers net all path time =
      subst (Ends T) (sym (output-Net system net path time))
      (bind-ends T (sources_of system (map (kid_output system) (out-Net net).kids) (out-Net net).boss path time [])
      (λ sources. Ok (gathered system.translate (out-Net net).links sources part.Net (system.network (out-Net net).model (out-Net net).args).outs))
      (sources-by (out-Net net).kids all (out-Net net).boss path time []) (λ sources. tt))

  pub part-answers : (own : Sim) → Answers own
  part-answers = each_tree Answers leaf-answers net-answers

  all-answer : (kids : List Kid) → AllByRecursion (λ (kid : Kid). Answers (out-Kid kid).sim) kids
  all-answer [] = tt
  all-answer (kid ∷ kids) = (part-answers (out-Kid kid).sim, all-answer kids)

  -- ---- moves

  takes : (leaf : Leaf) (kind : MoveKind) (path : Path) (time : ℕ) (got : Ports) → Ends T (take_move system leaf kind path time got).end
  takes leaf kind path time got =
      then-ends T (quietly (at path (move_leaf system leaf kind time got))) _ (at-below n path (move_leaf system leaf kind time got) (leaf-moves leaf kind time got)) (λ moved. tt)

  leaf-by : (leaf : Leaf) (kind : Option MoveKind) (path : Path) (time : ℕ) (got : Ports)
      → Ends T (let step : Told Leaf = elim kind [ Some kind ↦ take_move system leaf kind path time got | None ↦ told [] leaf ] in step.end)
  leaf-by leaf (Some kind) path time got = takes leaf kind path time got
  leaf-by leaf None path time got = tt

  abbrev Moves : Sim → Type 0
  Moves own = (path : Path) (time : ℕ) (got : Ports) (room : ℕ) → Ends T (move system own path time got room).end

  leaf-case : (leaf : Leaf) → Moves (sim.Leaf leaf)
  leaf-case leaf path time got room =
      subst (λ (step : Told (Sim × ℕ)). Ends T step.end) (sym (move-Leaf system leaf path time got room))
      (then-ends T (move_leaf_at system leaf path time got) (as_leaf room) (leaf-by leaf (kind_of leaf time got) path time got) (λ after. tt))

  kid-moves : (kid : Kid) → Moves (out-Kid kid).sim → (path : Path) (time : ℕ) (links : List Link) (sources : Sources) (room : ℕ) → Ends T (kid_move system kid path time links sources room).end
  kid-moves kid own path time links sources room =
      let name = (out-Kid kid).name in
      let got : Ports = gathered system.translate links sources (part.Kid name) (ins_of system (out-Kid kid).sim) in
      subst (λ (step : Told (Kid × ℕ)). Ends T step.end) (sym (kid_move-opens system kid path time links sources room))
      (then-ends T (move system (out-Kid kid).sim (below path name) time got room) (λ after. told [] (kid_of name after.0, after.1)) (own (below path name) time got room) (λ after. tt))

  kids-move : (kids : List Kid) → AllByRecursion (λ (kid : Kid). Moves (out-Kid kid).sim) kids → (path : Path) (time : ℕ) (links : List Link) (sources : Sources) (room : ℕ) (done : List Kid)
      → Ends T (moved (map (kid_move system) kids) path time links sources room done).end
  kids-move [] all path time links sources room done = tt
  kids-move (kid ∷ kids) all path time links sources room done =
      then-ends T (kid_move system kid path time links sources room) (λ one. moved (map (kid_move system) kids) path time links sources one.1 (done ++ one.0 ∷ [])) (kid-moves kid all.0 path time links sources room)
      (λ one. kids-move kids all.1 path time links sources one.1 (done ++ one.0 ∷ []))

  module _ (model : ModelId) (args : List Value) (path : Path) (time : ℕ) where
    boss-behind : (kids : List Kid) (room : ℕ) (boss : Leaf) → Ends T (after_boss system model args kids path time room boss).end
    boss-behind kids room boss =
        then-ends T (quietly (structure_of system model args boss path)) (replanned system model args boss kids path time room) (structures model args boss path) (λ plan.
        then-ends T (change system plan.entries kids path time room) (λ changed. told [] (net_of model args boss changed.0 plan.links, changed.1)) (changes plan.entries kids path time room) (λ changed. tt))

    boss-by : (boss : Leaf) (links : List Link) (kids : List Kid) (kind : Option MoveKind) (got : Ports) (room : ℕ)
        → Ends T (let step : Told (Net × ℕ) = elim kind [
          | Some kind ↦ take_move system boss kind (to_boss path) time got then after_boss system model args kids path time room
          | None ↦ told [] (net_of model args boss kids links, room)
        ] in step.end)
    boss-by boss links kids (Some kind) got room =
        then-ends T (take_move system boss kind (to_boss path) time got) (after_boss system model args kids path time room) (takes boss kind (to_boss path) time got) (λ after. boss-behind kids room after)
    boss-by boss links kids None got room = tt

    net-by : (boss : Leaf) (links : List Link) (kids : List Kid) → AllByRecursion (λ (kid : Kid). Moves (out-Kid kid).sim) kids → (got : Ports) (room : ℕ)
        → Ends T (net_moves system model args boss (map (kid_output system) kids) (map (kid_move system) kids) links path time got room).end
    net-by boss links kids all got room =
        then-ends T (quietly (sources_of system (map (kid_output system) kids) boss path time got)) (with_sources system model args boss (map (kid_move system) kids) links path time room)
        (sources-by kids (all-answer kids) boss path time got) (λ sources.
        let box : Ports = gathered system.translate links sources part.Boss (component_of system boss).ins in
        then-ends T (moved (map (kid_move system) kids) path time links sources room []) (after_kids system model args boss links path time sources)
        (kids-move kids all path time links sources room []) (λ after. boss-by boss links after.0 (kind_of boss time box) box after.1))

  net-case : (net : Net) → AllByRecursion (λ (kid : Kid). Moves (out-Kid kid).sim) (out-Net net).kids → Moves (sim.Net net)
  net-case net all path time got room =
      subst (λ (step : Told (Sim × ℕ)). Ends T step.end) (sym (move-Net system net path time got room))
      (then-ends T (net_move system net path time got room) as_net
      (subst (λ (step : Told (Net × ℕ)). Ends T step.end) (sym (net_move-opens system net path time got room))
      (net-by (out-Net net).model (out-Net net).args path time (out-Net net).boss (out-Net net).links (out-Net net).kids all got room)) (λ after. tt))

  pub part-moves : (own : Sim) → Moves own
  part-moves = each_tree Moves leaf-case net-case
