-- More room changes nothing of a step that came to its end but the room that is left.
use Rattle.std.proofs.Common.{◌≡◌, ℕ, ◌+◌, zero, suc, Bool, true, false, List, [], ◌∷◌, ◌++◌, Option, Some, None, Result, Ok, Err, refl, ◌∙◌, ap, suc-add, arith}
use Rattle.std.specs.Prelude.{if◌then◌else◌}
use Rattle.dsde_values.specs.declared.path.Path.{Path}
use Rattle.dsde_values.specs.declared.value.Value.{Value}
use Rattle.dsde_sim_tree.specs.given.language.ids_ModelId.{ModelId}
use Rattle.dsde_sim_tree.specs.given.formalism.leaf_Leaf.{Leaf}
use Rattle.dsde_sim_tree.specs.given.formalism.leaf_MoveKind.{MoveKind}
use Rattle.dsde_sim_tree.specs.given.formalism.Leaf.{kind_of, start_leaf}
use Rattle.dsde_sim_tree.specs.given.formalism.System.{System, Ports}
use Rattle.dsde_sim_tree.specs.given.structure.plan_Entry.{Entry}
use Rattle.dsde_sim_tree.specs.given.structure.plan_Link.{Link}
use Rattle.dsde_sim_tree.specs.given.structure.plan_Plan.{Plan}
use Rattle.dsde_sim_tree.specs.declared.event.Event.{Event}
use Rattle.dsde_sim_tree.specs.declared.event.Event.TheVariants.{AddNet, AddLeaf}
use Rattle.dsde_sim_tree.specs.declared.fault.TurnEnd.{TurnEnd}
use Rattle.dsde_sim_tree.specs.Told.{Told, told, quietly, telling, ◌then◌, at, below, to_boss}
use Rattle.dsde_sim_tree.specs.declared.sim.Kid.{Kid}
use Rattle.dsde_sim_tree.specs.declared.sim.Net.{Net}
use Rattle.dsde_sim_tree.specs.declared.sim.Sim.{Sim}
use Rattle.dsde_sim_tree.specs.declared.sim.Sim.TheVariants as sim
use Rattle.dsde_sim_tree.specs.declared.sim.Sim.TheOpen as layer
use Rattle.dsde_sim_tree.specs.declared.sim.Sim.TheOpen.{Sim-F}
use Rattle.dsde_sim_tree.specs.declared.sim.Sim.TheViews.{out-Sim, out-Net}
use Rattle.dsde_sim_tree.specs.Move.{take_move, move_leaf_at, gone, kept, take_named, refill, refilled, left_behind, change, replanned, after_boss, boss_moves}
use Rattle.dsde_sim_tree.specs.Opened.{as_leaf, as_net}
use Rattle.dsde_sim_tree.specs.Start.{entered, kid_of, net_of, start_leaf_at, Starter, started_kid, starts, structure_of, with_plan, with_boss, start_net, start_net_at, start_atomic, start}
use Rattle.dsde_sim_tree.specs.Tree.{parts_of_kids}
use Rattle.dsde_sim_movers.specs.Movers.{moves_in, moves}
use Rattle.dsde_sim_movers.specs.lemmas.Steps.{made, same-ok, never-ok}

-- A function of something with room tells the same with more room, and comes to the same with more room.
abbrev pub IsSteady : {X Y : Type 0} → (X → ℕ → X) → (Y → ℕ → Y) → (X → Told Y) → Type 0
IsSteady {X} {Y} more_x more_y f = (x : X) (more : ℕ) (y : Y) → (f x).end ≡ Ok y → f (more_x x more) ≡ made (f x).events (Ok (more_y y more))

abbrev pub more_room : ℕ → ℕ → ℕ
more_room room more = room + more

abbrev pub more_behind : {A : Type 0} → A × ℕ → ℕ → A × ℕ
more_behind own more = (own.0, own.1 + more)

abbrev pub more_last : {A B : Type 0} → A × B × ℕ → ℕ → A × B × ℕ
more_last own more = (own.0, own.1, own.2 + more)

module _ {X Y Z : Type 0} (more_x : X → ℕ → X) (more_y : Y → ℕ → Y) (more_z : Z → ℕ → Z) where
  steady-then-by : (f : X → Told Y) (g : Y → Told Z) → IsSteady more_y more_z g → (x : X) (more : ℕ) (z : Z) (events : List Event) (end : Result Y TurnEnd) →
      ((y : Y) → end ≡ Ok y → f (more_x x more) ≡ made events (Ok (more_y y more))) →
      (let step : Told Y = made events end in (step then g).end ≡ Ok z → (f (more_x x more) then g) ≡ made (step then g).events (Ok (more_z z more)))
  steady-then-by f g steady x more z events (Ok y) first is =
      ap (λ (step : Told Y). step then g) (first y refl) ∙ ap (λ (step : Told Z). telling events step) (steady y more z is)
  steady-then-by f g steady x more z events (Err end) first is = absurd (never-ok end z is)

  pub steady-then : (f : X → Told Y) (g : Y → Told Z) → IsSteady more_x more_y f → IsSteady more_y more_z g → IsSteady more_x more_z (λ x. f x then g)
  steady-then f g first later x more z is = steady-then-by f g later x more z (f x).events (f x).end (first x more) is

module _ {X Y : Type 0} (more_x : X → ℕ → X) (more_y : Y → ℕ → Y) where
  steady-fixed-by : {A : Type 0} (g : A → X → Told Y) → ((value : A) → IsSteady more_x more_y (g value)) → (x : X) (more : ℕ) (y : Y) (events : List Event) (end : Result A TurnEnd) →
      (let step : Told A = made events end in (step then (λ value. g value x)).end ≡ Ok y →
      (step then (λ value. g value (more_x x more))) ≡ made (step then (λ value. g value x)).events (Ok (more_y y more)))
  steady-fixed-by g steady x more y events (Ok value) is = ap (λ (step : Told Y). telling events step) (steady value x more y is)
  steady-fixed-by g steady x more y events (Err end) is = absurd (never-ok end y is)

  -- behind a step that takes no room
  pub steady-fixed : {A : Type 0} (step : Told A) (g : A → X → Told Y) → ((value : A) → IsSteady more_x more_y (g value)) → IsSteady more_x more_y (λ x. step then (λ value. g value x))
  steady-fixed step g steady x more y is = steady-fixed-by g steady x more y step.events step.end is

  pub steady-telling : (events : List Event) (f : X → Told Y) → IsSteady more_x more_y f → IsSteady more_x more_y (λ x. telling events (f x))
  steady-telling events f steady x more y is = ap (λ (step : Told Y). telling events step) (steady x more y is)

  pub steady-told : (events : List Event) (h : X → Y) → ((x : X) (more : ℕ) → h (more_x x more) ≡ more_y (h x) more) → IsSteady more_x more_y (λ x. told events (h x))
  steady-told events h keeps x more y is = λ i. made events (Ok ((keeps x more ∙ ap (λ own. more_y own more) (same-ok (h x) y is)) i))

  pub steady-never : (end : TurnEnd) → IsSteady more_x more_y (λ x. quietly (Err end))
  steady-never end x more y is = absurd (never-ok end y is)

  pub steady-if : (test : Bool) (f g : X → Told Y) → IsSteady more_x more_y f → IsSteady more_x more_y g → IsSteady more_x more_y (λ x. if test then f x else g x)
  steady-if true f g one other = one
  steady-if false f g one other = other

-- what is steady for each value is steady for a value with room
pub steady-of : {A Y : Type 0} (more_y : Y → ℕ → Y) (g : A → ℕ → Told Y) → ((value : A) → IsSteady more_room more_y (g value)) → IsSteady more_behind more_y (λ own. g own.0 own.1)
steady-of more_y g steady own more y is = steady own.0 own.1 more y is

entered-steady : (left : ℕ) (path : Path) (place : ℕ) → IsSteady more_room more_room (λ room. quietly (entered left path place room))
entered-steady zero path place room more y is = absurd (never-ok _ y is)
entered-steady (suc left) path place zero more y is = absurd (never-ok _ y is)
entered-steady (suc left) path place (suc room) more y is =
    ap (λ (all : ℕ). quietly (entered (suc left) path place all)) (suc-add room more) ∙ (λ i. quietly (Ok (same-ok room y is i + more)))

module _ (system : System) where
  start_leaf-steady : (left : ℕ) (model : ModelId) (boss : Bool) (args : List Value) (path : Path) (time : ℕ) → IsSteady more_room more_behind (start_leaf_at system left model boss args path time)
  start_leaf-steady left model boss args path time =
      steady-then more_room more_room more_behind (λ room. quietly (entered left path (system.component model args).at room))
      (λ rest. quietly (at path (start_leaf system model boss args time)) then (λ leaf. told (AddLeaf path model leaf.state leaf.next ∷ []) (leaf, rest)))
      (entered-steady left path (system.component model args).at)
      (steady-fixed more_room more_behind (quietly (at path (start_leaf system model boss args time))) (λ leaf rest. told (AddLeaf path model leaf.state leaf.next ∷ []) (leaf, rest))
      (λ leaf. steady-told more_room more_behind (AddLeaf path model leaf.state leaf.next ∷ []) (λ rest. (leaf, rest)) (λ rest more. refl)))

  abbrev pub IsSteadyStarter : Starter → Type 0
  IsSteadyStarter starter = (model : ModelId) (args : List Value) (path : Path) (time : ℕ) → IsSteady more_room more_behind (starter model args path time)

  started_kid-steady : (starter : Starter) → IsSteadyStarter starter → (entry : Entry) (path : Path) (time : ℕ) → IsSteady more_room more_behind (started_kid starter entry path time)
  started_kid-steady starter steady entry path time =
      steady-then more_room more_behind more_behind (starter entry.model entry.args (below path entry.name) time) (λ started. told [] (kid_of entry.name started.0, started.1))
      (steady entry.model entry.args (below path entry.name) time)
      (steady-told more_behind more_behind [] (λ started. (kid_of entry.name started.0, started.1)) (λ started more. refl))

  starts-steady : (starter : Starter) → IsSteadyStarter starter → (entries : List Entry) (path : Path) (time : ℕ) (done : List Kid) → IsSteady more_room more_behind (λ room. starts starter entries path time room done)
  starts-steady starter steady [] path time done = steady-told more_room more_behind [] (λ room. (done, room)) (λ room more. refl)
  starts-steady starter steady (entry ∷ entries) path time done =
      steady-then more_room more_behind more_behind (started_kid starter entry path time) (λ one. starts starter entries path time one.1 (done ++ one.0 ∷ []))
      (started_kid-steady starter steady entry path time)
      (steady-of more_behind (λ kid room. starts starter entries path time room (done ++ kid ∷ [])) (λ kid. starts-steady starter steady entries path time (done ++ kid ∷ [])))

  with_plan-steady : (starter : Starter) → IsSteadyStarter starter → (model : ModelId) (args : List Value) (boss : Leaf) (path : Path) (time : ℕ) (plan : Plan) →
      IsSteady more_room more_behind (λ room. with_plan starter model args boss path time room plan)
  with_plan-steady starter steady model args boss path time plan =
      steady-then more_room more_behind more_behind (λ room. starts starter plan.entries path time room []) (λ kids. told [] (net_of model args boss kids.0 plan.links, kids.1))
      (starts-steady starter steady plan.entries path time [])
      (steady-told more_behind more_behind [] (λ kids. (net_of model args boss kids.0 plan.links, kids.1)) (λ kids more. refl))

  with_boss-steady : (starter : Starter) → IsSteadyStarter starter → (model : ModelId) (args : List Value) (path : Path) (time : ℕ) → IsSteady more_behind more_behind (with_boss system starter model args path time)
  with_boss-steady starter steady model args path time =
      steady-of more_behind (λ boss room. quietly (structure_of system model args boss path) then with_plan starter model args boss path time room)
      (λ boss. steady-fixed more_room more_behind (quietly (structure_of system model args boss path)) (λ plan room. with_plan starter model args boss path time room plan)
      (λ plan. with_plan-steady starter steady model args boss path time plan))

  start_net-steady : (left : ℕ) (starter : Starter) → IsSteadyStarter starter → (model : ModelId) (args : List Value) (path : Path) (time : ℕ) → IsSteady more_room more_behind (start_net system left starter model args path time)
  start_net-steady left starter steady model args path time =
      steady-telling more_room more_behind (AddNet path model ∷ []) (λ room. start_leaf_at system left model true args (to_boss path) time room then with_boss system starter model args path time)
      (steady-then more_room more_behind more_behind (start_leaf_at system left model true args (to_boss path) time) (with_boss system starter model args path time)
      (start_leaf-steady left model true args (to_boss path) time) (with_boss-steady starter steady model args path time))

  start_net_at-steady : (left : ℕ) (starter : Starter) → IsSteadyStarter starter → (model : ModelId) (args : List Value) (path : Path) (time : ℕ) → IsSteady more_room more_behind (start_net_at system left starter model args path time)
  start_net_at-steady left starter steady model args path time =
      steady-then more_room more_room more_behind (λ room. quietly (entered (suc left) path (system.network model args).at room))
      (λ rest. start_net system left starter model args path time rest then (λ net. told [] (sim.Net net.0, net.1)))
      (entered-steady (suc left) path (system.network model args).at)
      (steady-then more_room more_behind more_behind (start_net system left starter model args path time) (λ net. told [] (sim.Net net.0, net.1))
      (start_net-steady left starter steady model args path time)
      (steady-told more_behind more_behind [] (λ net. (sim.Net net.0, net.1)) (λ net more. refl)))

  start_atomic-steady : (left : ℕ) (model : ModelId) (args : List Value) (path : Path) (time : ℕ) → IsSteady more_room more_behind (start_atomic system left model args path time)
  start_atomic-steady left model args path time =
      steady-then more_room more_behind more_behind (start_leaf_at system left model false args path time) (λ leaf. told [] (sim.Leaf leaf.0, leaf.1))
      (start_leaf-steady left model false args path time)
      (steady-told more_behind more_behind [] (λ leaf. (sim.Leaf leaf.0, leaf.1)) (λ leaf more. refl))

  pub start-steady : (left : ℕ) → IsSteadyStarter (start system left)
  start-steady zero model args path time = steady-never more_room more_behind _
  start-steady (suc left) model args path time =
      steady-if more_room more_behind (system.is_network model) (start_net_at system left (start system left) model args path time) (start_atomic system (suc left) model args path time)
      (start_net_at-steady left (start system left) (start-steady left) model args path time) (start_atomic-steady (suc left) model args path time)

  refill-steady-by : (starter : Starter) → IsSteadyStarter starter → (own : Entry) (kids : List Kid) (path : Path) (time : ℕ) (taken : Option (Kid × List Kid)) →
      (let one : ℕ → Told (Kid × List Kid × ℕ) = λ room. elim taken [
        | Some taken ↦ told [] (taken.0, taken.1, room)
        | None ↦ started_kid starter own path time room then (λ one. told [] (one.0, kids, one.1))
      ] in IsSteady more_room more_last one)
  refill-steady-by starter steady own kids path time (Some taken) = steady-told more_room more_last [] (λ room. (taken.0, taken.1, room)) (λ room more. refl)
  refill-steady-by starter steady own kids path time None =
      steady-then more_room more_behind more_last (started_kid starter own path time) (λ one. told [] (one.0, kids, one.1))
      (started_kid-steady starter steady own path time)
      (steady-told more_behind more_last [] (λ one. (one.0, kids, one.1)) (λ one more. refl))

  refilled-steady : (starter : Starter) → IsSteadyStarter starter → (entries : List Entry) (kids : List Kid) (path : Path) (time : ℕ) (done : List Kid) →
      IsSteady more_room more_behind (λ room. refilled starter entries kids path time room done)
  refilled-steady starter steady [] kids path time done = steady-told more_room more_behind [] (λ room. (done, room)) (λ room more. refl)
  refilled-steady starter steady (own ∷ entries) kids path time done =
      steady-then more_room more_last more_behind (λ room. refill starter own kids path time room) (λ one. refilled starter entries one.1 path time one.2 (done ++ one.0 ∷ []))
      (refill-steady-by starter steady own kids path time (take_named own.name kids))
      (λ one more y is. refilled-steady starter steady entries one.1 path time (done ++ one.0 ∷ []) one.2 more y is)

  change-steady : (entries : List Entry) (kids : List Kid) (path : Path) (time : ℕ) → IsSteady more_room more_behind (change system entries kids path time)
  change-steady entries kids path time =
      let given = parts_of_kids (gone entries kids) in
      let filled : ℕ → Told (List Kid × ℕ) = λ room. refilled (start system (left_behind path)) entries (kept entries kids) path time room [] in
      let swapped : (room more : ℕ) → (room + more) + given ≡ (room + given) + more = λ room more. omega arith in
      steady-telling more_room more_behind _ (λ room. filled (room + given))
      (λ room more y is. ap filled (swapped room more) ∙ refilled-steady (start system (left_behind path)) (start-steady (left_behind path)) entries (kept entries kids) path time [] (room + given) more y is)

  after_boss-steady : (model : ModelId) (args : List Value) (kids : List Kid) (path : Path) (time : ℕ) (boss : Leaf) → IsSteady more_room more_behind (λ room. after_boss system model args kids path time room boss)
  after_boss-steady model args kids path time boss =
      steady-fixed more_room more_behind (quietly (structure_of system model args boss path)) (λ plan room. replanned system model args boss kids path time room plan)
      (λ plan. steady-then more_room more_behind more_behind (change system plan.entries kids path time) (λ changed. told [] (net_of model args boss changed.0 plan.links, changed.1))
      (change-steady plan.entries kids path time)
      (steady-told more_behind more_behind [] (λ changed. (net_of model args boss changed.0 plan.links, changed.1)) (λ changed more. refl)))

  boss-steady-by : (model : ModelId) (args : List Value) (boss : Leaf) (links : List Link) (kids : List Kid) (path : Path) (time : ℕ) (got : Ports) (kind : Option MoveKind) →
      (let step : ℕ → Told (Net × ℕ) = λ room. elim kind [
        | Some kind ↦ take_move system boss kind (to_boss path) time got then after_boss system model args kids path time room
        | None ↦ told [] (net_of model args boss kids links, room)
      ] in IsSteady more_room more_behind step)
  boss-steady-by model args boss links kids path time got (Some kind) =
      steady-fixed more_room more_behind (take_move system boss kind (to_boss path) time got) (λ after room. after_boss system model args kids path time room after) (after_boss-steady model args kids path time)
  boss-steady-by model args boss links kids path time got None =
      steady-told more_room more_behind [] (λ room. (net_of model args boss kids links, room)) (λ room more. refl)

  moves-in-steady : (is_boss : Bool) (path : Path) (time : ℕ) (got : Ports) (part : Sim) (opened : Sim-F Sim Kid Net) → IsSteady more_room more_behind (λ room. moves_in system is_boss path time got part room opened)
  moves-in-steady false path time got part (layer.Leaf leaf) =
      steady-fixed more_room more_behind (move_leaf_at system leaf path time got) (λ after room. as_leaf room after)
      (λ after. steady-told more_room more_behind [] (λ room. (sim.Leaf after, room)) (λ room more. refl))
  moves-in-steady true path time got part (layer.Leaf leaf) = steady-told more_room more_behind [] (λ room. (part, room)) (λ room more. refl)
  moves-in-steady false path time got part (layer.Net net) = steady-told more_room more_behind [] (λ room. (part, room)) (λ room more. refl)
  moves-in-steady true path time got part (layer.Net net) =
      let own = out-Net net in
      steady-then more_room more_behind more_behind (boss_moves system own.model own.args own.boss own.links own.kids path time got) as_net
      (boss-steady-by own.model own.args own.boss own.links own.kids path time got (kind_of own.boss time got))
      (steady-told more_behind more_behind [] (λ after. (sim.Net after.0, after.1)) (λ after more. refl))

  -- Who moves takes the same transition with more room.
  pub moves-steady : (is_boss : Bool) (path : Path) (time : ℕ) (got : Ports) (part : Sim) → IsSteady more_room more_behind (moves system is_boss path time got part)
  moves-steady is_boss path time got part = moves-in-steady is_boss path time got part (out-Sim part)
