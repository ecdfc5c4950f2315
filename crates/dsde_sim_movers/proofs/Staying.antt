-- Names stay in order through starts and moves.
use Rattle.std.proofs.Common.{◌≡◌, ℕ, ◌+◌, ◌-◌, zero, suc, Bool, true, false, List, [], ◌∷◌, ◌++◌, map, Option, Some, None, Result, Ok, Err, refl, sym, ◌∙◌, ap, subst, append_assoc, append-nil}
use Rattle.std.proofs.lemmas.List.{map-append}
use Rattle.std.proofs.lemmas.Simd.{map-map}
use Rattle.std.specs.List.{AllByRecursion}
use Rattle.std.specs.Prelude.{if◌then◌else◌}
use Rattle.dsde_values.specs.declared.arrival.Item.{Item}
use Rattle.dsde_values.specs.declared.name.Name.{Name}
use Rattle.dsde_values.specs.declared.path.Path.{Path}
use Rattle.dsde_values.specs.declared.value.Value.{Value}
use Rattle.dsde_faults.specs.declared.end.LeafEnd.{LeafEnd}
use Rattle.dsde_faults.specs.declared.end.LeafEnd.TheVariants as leaf_end
use Rattle.dsde_values.specs.Path.{root}
use Rattle.dsde_sim_tree.specs.given.language.ids_ModelId.{ModelId}
use Rattle.dsde_sim_tree.specs.given.formalism.leaf_Leaf.{Leaf}
use Rattle.dsde_sim_tree.specs.given.formalism.leaf_MoveKind.{MoveKind}
use Rattle.dsde_sim_tree.specs.given.formalism.Leaf as leaf
use Rattle.dsde_sim_tree.specs.given.formalism.Leaf.{kind_of, move_leaf, settled, transition, component_of}
use Rattle.dsde_sim_tree.specs.given.formalism.System.{System, Ports}
use Rattle.dsde_sim_tree.specs.given.structure.plan_Entry.{Entry}
use Rattle.dsde_sim_tree.specs.given.structure.plan_Link.{Link}
use Rattle.dsde_sim_tree.specs.given.structure.plan_Plan.{Plan}
use Rattle.dsde_sim_tree.specs.given.structure.Gather.{is_same_name}
use Rattle.dsde_sim_tree.specs.given.structure.Survival as entry
use Rattle.dsde_sim_tree.specs.declared.event.Event.{Event}
use Rattle.dsde_sim_tree.specs.declared.event.Event.TheVariants.{Move}
use Rattle.dsde_sim_tree.specs.Told.{Told, told, quietly, ◌then◌, at, below, to_boss}
use Rattle.dsde_sim_tree.specs.declared.sim.Kid.{Kid}
use Rattle.dsde_sim_tree.specs.declared.sim.Net.{Net}
use Rattle.dsde_sim_tree.specs.declared.sim.Sim.{Sim}
use Rattle.dsde_sim_tree.specs.declared.sim.Sim.TheVariants as sim
use Rattle.dsde_sim_tree.specs.declared.sim.Sim.TheOpen as layer
use Rattle.dsde_sim_tree.specs.declared.sim.Sim.TheOpen.{Sim-F}
use Rattle.dsde_sim_tree.specs.declared.sim.Sim.TheViews.{out-Kid, out-Net}
use Rattle.dsde_sim_tree.specs.Move.{take_move, move_leaf_at, gone, kept, survives, take_named, refill, refilled, left_behind, change, replanned, after_boss, boss_moves}
use Rattle.dsde_sim_tree.specs.Opened.{as_leaf, as_net, spots-Leaf}
use Rattle.dsde_sim_tree.specs.Start.{entered, kid_of, net_of, start_leaf_at, Starter, started_kid, starts, structure_of, with_plan, with_boss, start_net, start_net_at, start_atomic, start}
use Rattle.dsde_sim_tree.specs.Output.{output}
use Rattle.dsde_sim_tree.specs.Tree.{entry_of, model_of, args_of, parts, parts_of_kids, name_of}
use Rattle.dsde_sim_tree.specs.declared.step.TheConstants.{MOST_PARTS}
use Rattle.dsde_sim_tree.specs.Turn.{without_room}
use Rattle.dsde_sim_movers.specs.Deliveries.{Delivery}
use Rattle.dsde_sim_movers.specs.lemmas.Events.{each-append, each-filter}
use Rattle.dsde_sim_movers.specs.Parts.{part_at, with_part}
use Rattle.dsde_sim_movers.specs.Movers.{Step, moves_in, moves, path_behind, seat_behind, move_one, move_each}
use Rattle.dsde_sim_movers.specs.Names.{AreNames, HasNames, IsNamed, NamesParts}
use Rattle.dsde_sim_movers.specs.Turns.{free_phase, free_turn}
use Rattle.dsde_sim_movers.specs.lemmas.Seats.{out-Leaf, out-Net-of, whole, named, own-sim, boss-moves-whole, leaf-moves-leaf}
use Rattle.dsde_sim_movers.specs.lemmas.Lenses.{by_parts}
use Rattle.dsde_sim_movers.specs.lemmas.Steps.{same-ok, never-ok, split-then}
use Rattle.dsde_sim_movers.specs.lemmas.Spotting.{IsAlike, alike-itself, model-whole, args-whole, whole-spots, spots-whole, spots-at, spots-with}

-- the model and the arguments of a component
model-leaf : (own : Leaf) → model_of (sim.Leaf own) ≡ own.model
model-leaf own = ap (λ (opened : Sim-F Sim Kid Net). let found : ModelId = elim opened [ layer.Leaf leaf ↦ leaf.model | layer.Net net ↦ (out-Net net).model ] in found) (out-Leaf own)

args-leaf : (own : Leaf) → args_of (sim.Leaf own) ≡ own.args
args-leaf own = ap (λ (opened : Sim-F Sim Kid Net). let found : List Value = elim opened [ layer.Leaf leaf ↦ leaf.args | layer.Net net ↦ (out-Net net).args ] in found) (out-Leaf own)

-- what a step comes to has this
abbrev pub Brings : {A : Type 0} → (A → Type 0) → Told A → Type 0
Brings P step = (value : _) → step.end ≡ Ok value → P value

pub brings-told : {A : Type 0} (P : A → Type 0) (events : List Event) (value : A) → P value → Brings P (told events value)
brings-told P events value has other is = subst P (same-ok value other is) has

pub brings-then : {A B : Type 0} (P : A → Type 0) (Q : B → Type 0) (step : Told A) (next : A → Told B) → Brings P step → ((value : A) → P value → Brings Q (next value)) → Brings Q (step then next)
brings-then P Q step next first later value is =
    let known = split-then step.events step.end next value is in
    later known.0 (first known.0 known.1) value known.2

-- nothing is known of the first step
pub brings-any : {A B : Type 0} (Q : B → Type 0) (step : Told A) (next : A → Told B) → ((value : A) → Brings Q (next value)) → Brings Q (step then next)
brings-any {A} Q step next later = brings-then (λ (_ : A). Unit {0}) Q step next (λ value is. tt) (λ value has. later value)

at-ok : {A : Type 0} (path : Path) (result : Result A LeafEnd) (value : A) → at path result ≡ Ok value → result ≡ Ok value
at-ok path (Ok own) value is = ap (λ (v : _). Ok v) (same-ok own value is)
at-ok path (Err (leaf_end.Fault site kind place)) value is = absurd (never-ok _ value is)
at-ok path (Err leaf_end.Memory) value is = absurd (never-ok _ value is)

abbrev KidsNamed : List Kid → Type 0
KidsNamed kids = AllByRecursion (λ kid. IsNamed (out-Kid kid).sim) kids

named-leaf : (own : Leaf) → IsNamed (sim.Leaf own)
named-leaf own = subst (AllByRecursion HasNames) (sym (spots-Leaf own)) (tt, tt)

named-whole : (model : ModelId) (args : List Value) (boss : Leaf) (kids : List Kid) (links : List Link) → AreNames (map name_of kids) → KidsNamed kids → IsNamed (whole model args boss kids links)
named-whole model args boss kids links names each =
    spots-whole HasNames model args boss kids links (subst AreNames (sym (map-map (λ entry. entry.name) entry_of kids)) names) each

abbrev NamedNet : Net × ℕ → Type 0
NamedNet net = IsNamed (sim.Net net.0)

abbrev NamedSim : Sim × ℕ → Type 0
NamedSim own = IsNamed own.0

-- a component of this name
abbrev IsCalled : Name → Kid → Type 0
IsCalled name kid = (name_of kid ≡ name) × IsNamed (out-Kid kid).sim

-- components behind some, named as these entries
abbrev AreCalled : List Kid → List Entry → List Kid → Type 0
AreCalled done entries kids = (map name_of kids ≡ map name_of done ++ entry.names entries) × KidsNamed kids

called-none : (done : List Kid) → KidsNamed done → AreCalled done [] done
called-none done each = (sym (append-nil (map name_of done)), each)

called-more : (done : List Kid) (own : Entry) (entries : List Entry) (kid : Kid) (kids : List Kid) → name_of kid ≡ own.name → AreCalled (done ++ kid ∷ []) entries kids → AreCalled done (own ∷ entries) kids
called-more done own entries kid kids is called = (
  called.0 ∙ ap (λ names. names ++ entry.names entries) (map-append name_of done (kid ∷ [])) ∙ append_assoc (map name_of done) (name_of kid ∷ []) (entry.names entries)
      ∙ ap (λ (name : Name). map name_of done ++ name ∷ entry.names entries) is,
  called.1,
)

kids-with : (done : List Kid) (kid : Kid) → KidsNamed done → IsNamed (out-Kid kid).sim → KidsNamed (done ++ kid ∷ [])
kids-with done kid each own = each-append (λ kid. IsNamed (out-Kid kid).sim) done (kid ∷ []) each (own, tt)

module _ (system : System) (plans : NamesParts system) where
  abbrev StarterNames : Starter → Type 0
  StarterNames starter = (model : ModelId) (args : List Value) (path : Path) (time room : ℕ) → Brings NamedSim (starter model args path time room)

  started-kid : (starter : Starter) → StarterNames starter → (own : Entry) (path : Path) (time room : ℕ) → Brings (λ one. IsCalled own.name one.0) (started_kid starter own path time room)
  started-kid starter names own path time room =
      brings-then NamedSim (λ one. IsCalled own.name one.0) (starter own.model own.args (below path own.name) time room) (λ started. told [] (kid_of own.name started.0, started.1))
      (names own.model own.args (below path own.name) time room)
      (λ started has. brings-told (λ one. IsCalled own.name one.0) [] (kid_of own.name started.0, started.1)
      (named own.name started.0, subst IsNamed (sym (own-sim own.name started.0)) has))

  starts-named : (starter : Starter) → StarterNames starter → (entries : List Entry) (path : Path) (time room : ℕ) (done : List Kid) → KidsNamed done → Brings (λ kids. AreCalled done entries kids.0) (starts starter entries path time room done)
  starts-named starter names [] path time room done each = brings-told (λ kids. AreCalled done [] kids.0) [] (done, room) (called-none done each)
  starts-named starter names (own ∷ entries) path time room done each =
      brings-then (λ one. IsCalled own.name one.0) (λ kids. AreCalled done (own ∷ entries) kids.0) (started_kid starter own path time room) (λ one. starts starter entries path time one.1 (done ++ one.0 ∷ []))
      (started-kid starter names own path time room)
      (λ one called value is. called-more done own entries one.0 value.0 called.0
      (starts-named starter names entries path time one.1 (done ++ one.0 ∷ []) (kids-with done one.0 each called.1) value is))

  with-plan-named : (starter : Starter) → StarterNames starter → (model : ModelId) (args : List Value) (boss : Leaf) (path : Path) (time room : ℕ) (plan : Plan) → AreNames (entry.names plan.entries) →
      Brings NamedNet (with_plan starter model args boss path time room plan)
  with-plan-named starter names model args boss path time room plan order =
      brings-then (λ kids. AreCalled [] plan.entries kids.0) NamedNet (starts starter plan.entries path time room []) (λ kids. told [] (net_of model args boss kids.0 plan.links, kids.1))
      (starts-named starter names plan.entries path time room [] tt)
      (λ kids called. brings-told NamedNet [] (net_of model args boss kids.0 plan.links, kids.1)
      (named-whole model args boss kids.0 plan.links (subst AreNames (sym called.0) order) called.1))

  -- a plan that an executive gives names its components
  plan-names : (model : ModelId) (args : List Value) (boss : Leaf) (path : Path) → Brings (λ (plan : Plan). AreNames (entry.names plan.entries)) (quietly (structure_of system model args boss path))
  plan-names model args boss path plan is = plans.plans model args boss.state plan (at-ok (to_boss path) ((system.network model args).structure boss.state) plan is)

  with-boss-named : (starter : Starter) → StarterNames starter → (model : ModelId) (args : List Value) (path : Path) (time : ℕ) (boss : Leaf × ℕ) → Brings NamedNet (with_boss system starter model args path time boss)
  with-boss-named starter names model args path time boss =
      brings-then (λ (plan : Plan). AreNames (entry.names plan.entries)) NamedNet (quietly (structure_of system model args boss.0 path)) (with_plan starter model args boss.0 path time boss.1)
      (plan-names model args boss.0 path) (λ plan order. with-plan-named starter names model args boss.0 path time boss.1 plan order)

  start-net-named : (left : ℕ) (starter : Starter) → StarterNames starter → (model : ModelId) (args : List Value) (path : Path) (time room : ℕ) → Brings NamedNet (start_net system left starter model args path time room)
  start-net-named left starter names model args path time room =
      brings-any NamedNet (start_leaf_at system left model true args (to_boss path) time room) (with_boss system starter model args path time) (with-boss-named starter names model args path time)

  as-net-named : (step : Told (Net × ℕ)) → Brings NamedNet step → Brings NamedSim (step then as_net)
  as-net-named step names = brings-then NamedNet NamedSim step as_net names (λ net has. brings-told NamedSim [] (sim.Net net.0, net.1) has)

  start-atomic-named : (left : ℕ) (model : ModelId) (args : List Value) (path : Path) (time room : ℕ) → Brings NamedSim (start_atomic system left model args path time room)
  start-atomic-named left model args path time room =
      brings-any NamedSim (start_leaf_at system left model false args path time room) (λ own. told [] (sim.Leaf own.0, own.1))
      (λ own. brings-told NamedSim [] (sim.Leaf own.0, own.1) (named-leaf own.0))

  brings-if : (test : Bool) (one other : Told (Sim × ℕ)) → Brings NamedSim one → Brings NamedSim other → Brings NamedSim (if test then one else other)
  brings-if true one other first later = first
  brings-if false one other first later = later

  pub start-named : (left : ℕ) → StarterNames (start system left)
  start-named zero model args path time room = λ value is. absurd (never-ok _ value is)
  start-named (suc left) model args path time room =
      brings-if (system.is_network model) (start_net_at system left (start system left) model args path time room) (start_atomic system (suc left) model args path time room)
      (brings-any NamedSim (quietly (entered (suc left) path (system.network model args).at room)) (λ rest. start_net system left (start system left) model args path time rest then as_net)
      (λ rest. as-net-named (start_net system left (start system left) model args path time rest) (start-net-named left (start system left) (start-named left) model args path time rest)))
      (start-atomic-named (suc left) model args path time room)

  module _ (exact : (name other : Name) → is_same_name name other ≡ true → name ≡ other) where
    -- a component taken out by its name, and the others
    abbrev IsTaken : Name → Option (Kid × List Kid) → Type 0
    IsTaken name None = Unit {0}
    IsTaken name (Some taken) = IsCalled name taken.0 × KidsNamed taken.1

    taken-by : (name : Name) (kid : Kid) (kids : List Kid) (here : Bool) (rest : Option (Kid × List Kid)) → is_same_name (name_of kid) name ≡ here → IsNamed (out-Kid kid).sim → KidsNamed kids → IsTaken name rest →
        (let taken : Option (Kid × List Kid) = if here then Some (kid, kids) else (elim rest [ Some taken ↦ Some (taken.0, kid ∷ taken.1) | None ↦ None ]) in IsTaken name taken)
    taken-by name kid kids true rest is own each later = ((exact (name_of kid) name is, own), each)
    taken-by name kid kids false None is own each later = tt
    taken-by name kid kids false (Some taken) is own each later = (later.0, (own, later.1))

    taken-named : (name : Name) (kids : List Kid) → KidsNamed kids → IsTaken name (take_named name kids)
    taken-named name [] each = tt
    taken-named name (kid ∷ kids) each = taken-by name kid kids (is_same_name (name_of kid) name) (take_named name kids) refl each.0 each.1 (taken-named name kids each.1)

    abbrev Refills : Name → Kid × List Kid × ℕ → Type 0
    Refills name one = IsCalled name one.0 × KidsNamed one.1

    refill-by : (starter : Starter) → StarterNames starter → (own : Entry) (kids : List Kid) (path : Path) (time room : ℕ) (taken : Option (Kid × List Kid)) → IsTaken own.name taken → KidsNamed kids →
        (let step : Told (Kid × List Kid × ℕ) = elim taken [
          | Some taken ↦ told [] (taken.0, taken.1, room)
          | None ↦ started_kid starter own path time room then (λ one. told [] (one.0, kids, one.1))
        ] in Brings (Refills own.name) step)
    refill-by starter names own kids path time room (Some taken) has each = brings-told (Refills own.name) [] (taken.0, taken.1, room) has
    refill-by starter names own kids path time room None has each =
        brings-then (λ one. IsCalled own.name one.0) (Refills own.name) (started_kid starter own path time room) (λ one. told [] (one.0, kids, one.1))
        (started-kid starter names own path time room)
        (λ one called. brings-told (Refills own.name) [] (one.0, kids, one.1) (called, each))

    refilled-named : (starter : Starter) → StarterNames starter → (entries : List Entry) (kids : List Kid) (path : Path) (time room : ℕ) (done : List Kid) → KidsNamed kids → KidsNamed done →
        Brings (λ all. AreCalled done entries all.0) (refilled starter entries kids path time room done)
    refilled-named starter names [] kids path time room done each each_done = brings-told (λ all. AreCalled done [] all.0) [] (done, room) (called-none done each_done)
    refilled-named starter names (own ∷ entries) kids path time room done each each_done =
        brings-then (Refills own.name) (λ all. AreCalled done (own ∷ entries) all.0) (refill starter own kids path time room) (λ one. refilled starter entries one.1 path time one.2 (done ++ one.0 ∷ []))
        (refill-by starter names own kids path time room (take_named own.name kids) (taken-named own.name kids each) each)
        (λ one has value is. called-more done own entries one.0 value.0 has.0.0
        (refilled-named starter names entries one.1 path time one.2 (done ++ one.0 ∷ []) has.1 (kids-with done one.0 each_done has.0.1) value is))

    change-named : (entries : List Entry) (kids : List Kid) (path : Path) (time room : ℕ) → KidsNamed kids → Brings (λ all. AreCalled [] entries all.0) (change system entries kids path time room)
    change-named entries kids path time room each =
        refilled-named (start system (left_behind path)) (start-named (left_behind path)) entries (kept entries kids) path time (room + parts_of_kids (gone entries kids)) []
        (each-filter (λ kid. IsNamed (out-Kid kid).sim) (survives entries) kids each) tt

    -- a network of this model with these arguments, and named
    abbrev IsAgain : ModelId → List Value → Net × ℕ → Type 0
    IsAgain model args net = NamedNet net × (model_of (sim.Net net.0) ≡ model) × (args_of (sim.Net net.0) ≡ args)

    after-boss-named : (model : ModelId) (args : List Value) (kids : List Kid) (path : Path) (time room : ℕ) (boss : Leaf) → KidsNamed kids → Brings (IsAgain model args) (after_boss system model args kids path time room boss)
    after-boss-named model args kids path time room boss each =
        brings-then (λ (plan : Plan). AreNames (entry.names plan.entries)) (IsAgain model args) (quietly (structure_of system model args boss path)) (replanned system model args boss kids path time room)
        (plan-names model args boss path)
        (λ plan order. brings-then (λ all. AreCalled [] plan.entries all.0) (IsAgain model args) (change system plan.entries kids path time room) (λ changed. told [] (net_of model args boss changed.0 plan.links, changed.1))
        (change-named plan.entries kids path time room each)
        (λ changed called. brings-told (IsAgain model args) [] (net_of model args boss changed.0 plan.links, changed.1) (
          named-whole model args boss changed.0 plan.links (subst AreNames (sym called.0) order) called.1,
          model-whole model args boss changed.0 plan.links,
          args-whole model args boss changed.0 plan.links,
        )))

    boss-named-by : (model : ModelId) (args : List Value) (boss : Leaf) (links : List Link) (kids : List Kid) (path : Path) (time : ℕ) (got : Ports) (room : ℕ) (kind : Option MoveKind) →
        IsNamed (whole model args boss kids links) → KidsNamed kids →
        (let step : Told (Net × ℕ) = elim kind [
          | Some kind ↦ take_move system boss kind (to_boss path) time got then after_boss system model args kids path time room
          | None ↦ told [] (net_of model args boss kids links, room)
        ] in Brings (IsAgain model args) step)
    boss-named-by model args boss links kids path time got room (Some kind) own each =
        brings-any (IsAgain model args) (take_move system boss kind (to_boss path) time got) (after_boss system model args kids path time room) (λ after. after-boss-named model args kids path time room after each)
    boss-named-by model args boss links kids path time got room None own each =
        brings-told (IsAgain model args) [] (net_of model args boss kids links, room) (own, model-whole model args boss kids links, args-whole model args boss kids links)

    -- a component of the same model with the same arguments
    abbrev IsSame : Leaf → Leaf → Type 0
    IsSame own after = (after.model ≡ own.model) × (after.args ≡ own.args)

    bound-ok : {A B : Type 0} (result : Result A LeafEnd) (next : A → Result B LeafEnd) (value : B) → leaf.◌>>=◌ result next ≡ Ok value → (first : A) × (next first ≡ Ok value)
    bound-ok (Ok first) next value is = (first, is)
    bound-ok (Err end) next value is = absurd (let e : Err end ≡ Ok value = is in cc)

    moved-same : (own : Leaf) (kind : MoveKind) (time : ℕ) (got : Ports) (after : Leaf) → move_leaf system own kind time got ≡ Ok after → IsSame own after
    moved-same own kind time got after is =
        let one = bound-ok (transition (component_of system own) own.state kind _ got) _ after is in
        let two = bound-ok ((system.component own.model own.args).advance one.0 time) _ after one.1 in
        let e : Ok (record { model = own.model; boss = own.boss; args = own.args; state = one.0; last = time; next = two.0 }) ≡ Ok after = two.1 in
        let same : record { model = own.model; boss = own.boss; args = own.args; state = one.0; last = time; next = two.0 } ≡ after = cc in
        (ap (λ (l : Leaf). l.model) (sym same), ap (λ (l : Leaf). l.args) (sym same))

    take-same : (own : Leaf) (kind : MoveKind) (path : Path) (time : ℕ) (got : Ports) → Brings (IsSame own) (take_move system own kind path time got)
    take-same own kind path time got =
        brings-then (IsSame own) (IsSame own) (quietly (at path (move_leaf system own kind time got))) (λ after. told (Move path own.model kind after.state after.next ∷ []) after)
        (λ after is. moved-same own kind time got after (at-ok path (move_leaf system own kind time got) after is))
        (λ after has. brings-told (IsSame own) (Move path own.model kind after.state after.next ∷ []) after has)

    leaf-same-by : (own : Leaf) (path : Path) (time : ℕ) (got : Ports) (kind : Option MoveKind) →
        (let step : Told Leaf = elim kind [ Some kind ↦ take_move system own kind path time got | None ↦ told [] own ] in Brings (IsSame own) step)
    leaf-same-by own path time got (Some kind) = take-same own kind path time got
    leaf-same-by own path time got None = brings-told (IsSame own) [] own (refl, refl)

    -- what a part becomes that moves: named, and alike
    abbrev Stays : Sim → Sim × ℕ → Type 0
    Stays part after = IsNamed after.0 × IsAlike after.0 part

    leaf-alike : (own after : Leaf) → IsSame own after → IsAlike (sim.Leaf after) (sim.Leaf own)
    leaf-alike own after is = record {
      model = model-leaf after ∙ is.0 ∙ sym (model-leaf own);
      args = args-leaf after ∙ is.1 ∙ sym (args-leaf own);
    }

    moves-named : (is_boss : Bool) (path : Path) (time : ℕ) (got : Ports) (part : Sim) (room : ℕ) → IsNamed part → Brings (Stays part) (moves system is_boss path time got part room)
    moves-named false path time got part room =
        by_parts (λ (t : Sim). IsNamed t → Brings (Stays t) (moves system false path time got t room))
        (λ own named_own. subst (Brings (Stays (sim.Leaf own))) (sym (leaf-moves-leaf system path time got own room))
        (brings-then (IsSame own) (Stays (sim.Leaf own)) (move_leaf_at system own path time got) (as_leaf room) (leaf-same-by own path time got (kind_of own time got))
        (λ after has. brings-told (Stays (sim.Leaf own)) [] (sim.Leaf after, room) (named-leaf after, leaf-alike own after has))))
        (λ model args boss kids links named_own. subst (Brings (Stays (whole model args boss kids links)))
        (sym (ap (moves_in system false path time got (whole model args boss kids links) room) (out-Net-of (net_of model args boss kids links))))
        (brings-told (Stays (whole model args boss kids links)) [] (whole model args boss kids links, room) (named_own, alike-itself (whole model args boss kids links))))
        part
    moves-named true path time got part room =
        by_parts (λ (t : Sim). IsNamed t → Brings (Stays t) (moves system true path time got t room))
        (λ own named_own. subst (Brings (Stays (sim.Leaf own))) (sym (ap (moves_in system true path time got (sim.Leaf own) room) (out-Leaf own)))
        (brings-told (Stays (sim.Leaf own)) [] (sim.Leaf own, room) (named_own, alike-itself (sim.Leaf own))))
        (λ model args boss kids links named_own. subst (Brings (Stays (whole model args boss kids links))) (sym (boss-moves-whole system path time got model args boss kids links room))
        (brings-then (IsAgain model args) (Stays (whole model args boss kids links)) (boss_moves system model args boss links kids path time got room) as_net
        (boss-named-by model args boss links kids path time got room (kind_of boss time got) named_own (whole-spots HasNames model args boss kids links named_own).1)
        (λ net has. brings-told (Stays (whole model args boss kids links)) [] (sim.Net net.0, net.1)
        (has.0, record { model = has.1 ∙ sym (model-whole model args boss kids links); args = has.2 ∙ sym (args-whole model args boss kids links) }))))
        part

    at-named-by : (names : List Name) (step : Step) (tree : Sim) (room : ℕ) (found : Option Sim) → part_at names tree ≡ found → ((part : Sim) → IsNamed part → Brings (Stays part) (step part room)) → IsNamed tree →
        (let all : Told (Sim × ℕ) = elim found [
          | Some part ↦ step part room then (λ after. told [] (with_part names after.0 tree, after.1))
          | None ↦ told [] (tree, room)
        ] in Brings NamedSim all)
    at-named-by names step tree room (Some part) there names_part own =
        brings-then (Stays part) NamedSim (step part room) (λ after. told [] (with_part names after.0 tree, after.1))
        (names_part part (spots-at HasNames names part tree own there))
        (λ after has. brings-told NamedSim [] (with_part names after.0 tree, after.1) (spots-with HasNames names after.0 part tree own there has.0 has.1))
    at-named-by names step tree room None there names_part own = brings-told NamedSim [] (tree, room) own

    -- who moves leaves names in order
    pub one-named : (path : Path) (time : ℕ) (own : Delivery) (tree : Sim) (room : ℕ) → IsNamed tree → Brings NamedSim (move_one system path time own tree room)
    one-named path time own tree room named_tree =
        let seat = seat_behind path own.path in
        at-named-by seat.names (moves system seat.is_boss (path_behind path seat.names) time own.ports) tree room (part_at seat.names tree) refl
        (λ part. moves-named seat.is_boss (path_behind path seat.names) time own.ports part room) named_tree

    pub each-named : (path : Path) (time : ℕ) (list : List Delivery) (tree : Sim) (room : ℕ) → IsNamed tree → Brings NamedSim (move_each system path time list tree room)
    each-named path time [] tree room named_tree = brings-told NamedSim [] (tree, room) named_tree
    each-named path time (own ∷ others) tree room named_tree =
        brings-then NamedSim NamedSim (move_one system path time own tree room) (λ after. move_each system path time others after.0 after.1)
        (one-named path time own tree room named_tree) (λ after has. each-named path time others after.0 after.1 has)

    -- a turn in any order
    pub turn-named : (tree : Sim) (number time : ℕ) (items : List Item) (order : List Delivery) → IsNamed tree → Brings IsNamed (free_turn system tree number time items order)
    turn-named tree number time items order named_tree =
        brings-any IsNamed (quietly (output system tree root time)) (free_phase system tree time order)
        (λ sent. brings-then NamedSim IsNamed (move_each system root time order tree (MOST_PARTS - parts tree)) without_room
        (each-named root time order tree (MOST_PARTS - parts tree) named_tree)
        (λ after has. brings-told IsNamed [] after.0 has))
