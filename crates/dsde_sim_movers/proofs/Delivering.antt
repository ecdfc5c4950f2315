-- What is delivered in a move is what the links carried before it.
use Rattle.std.proofs.Common.{◌≡◌, ℕ, ◌+◌, Bool, true, false, ◌||◌, ltb, length, List, [], ◌∷◌, ◌++◌, map, Option, Some, None, Result, Ok, Err, refl, sym, ◌∙◌, ap, subst, append_assoc, append-nil, arith}
use Rattle.std.proofs.lemmas.List.Concat.{flat_map-append}
use Rattle.std.proofs.lemmas.List.Elements.{filter-append}
use Rattle.std.specs.List.{AllByRecursion, flat_map, filter}
use Rattle.std.specs.Prelude.{if◌then◌else◌}
use borrow.Author.Tests.{lt-ltb}
use Rattle.dsde_sim_tree.specs.Tree.{name_of}
use Rattle.dsde_values.specs.declared.name.Name.{Name}
use Rattle.dsde_values.specs.declared.path.Path.{Path}
use Rattle.dsde_values.specs.declared.value.Value.{Value}
use Rattle.dsde_sim_tree.specs.given.language.ids_ModelId.{ModelId}
use Rattle.dsde_sim_tree.specs.given.formalism.leaf_Leaf.{Leaf}
use Rattle.dsde_sim_tree.specs.given.formalism.leaf_MoveKind.{MoveKind}
use Rattle.dsde_sim_tree.specs.given.formalism.leaf_MoveKind_TheVariants.{Internal, External, Confluent}
use Rattle.dsde_sim_tree.specs.given.formalism.Leaf.{is_due, has_come, kind_of, move_leaf, component_of}
use Rattle.dsde_sim_tree.specs.given.formalism.System.{System, Ports}
use Rattle.dsde_sim_tree.specs.given.structure.plan_Link.{Link}
use Rattle.dsde_sim_tree.specs.given.structure.plan_Part_TheVariants as part
use Rattle.dsde_sim_tree.specs.given.structure.sources_Sources.{Sources}
use Rattle.dsde_sim_tree.specs.given.structure.Gather.{gathered}
use Rattle.dsde_sim_tree.specs.declared.event.Event.{Event}
use Rattle.dsde_sim_tree.specs.declared.event.Event.TheVariants.{AddNet, AddLeaf, Get, Move}
use Rattle.dsde_sim_tree.specs.declared.fault.TurnEnd.{TurnEnd}
use Rattle.dsde_sim_tree.specs.Told.{below, Told, told, quietly, telling, ◌then◌, at, to_boss}
use Rattle.dsde_sim_tree.specs.declared.sim.Kid.{Kid}
use Rattle.dsde_sim_tree.specs.declared.sim.Net.{Net}
use Rattle.dsde_sim_tree.specs.declared.sim.Sim.{Sim}
use Rattle.dsde_sim_tree.specs.declared.sim.Sim.TheVariants as sim
use Rattle.dsde_sim_tree.specs.declared.sim.Sim.TheViews.{out-Kid, out-Net}
use Rattle.dsde_sim_tree.specs.Move.{gets_at, gets_from, take_move, move_leaf_at, moved, after_boss, boss_moves, after_kids, with_sources, net_moves, move, kid_move, net_move, ins_of}
use Rattle.dsde_sim_tree.specs.Opened.{as_leaf, as_net, move-Leaf, move-Net, kid_move-opens, net_move-opens}
use Rattle.dsde_sim_tree.specs.Output.{sources_of, kid_output}
use Rattle.dsde_sim_tree.specs.Start.{net_of}
use Rattle.dsde_sim_tree.specs.lemmas.Trees.{each_tree}
use Rattle.dsde_sim_movers.specs.Deliveries.{Delivery, KidReceives, shared, deliveries, deliveries_of_kid, gets_of, is_get}
use Rattle.dsde_sim_movers.specs.Delivered.{UpTo}
use Rattle.dsde_sim_movers.specs.lemmas.Opens.{deliveries-Leaf, deliveries-Net, deliveries-kid}
use Rattle.dsde_sim_movers.proofs.Adds.{IsStart}
use Rattle.dsde_sim_movers.proofs.DeliveryTelling.{after_boss-told}

abbrev gets : List Event → List Event
gets events = filter is_get events

-- the get events of a step up to a fault
abbrev pub Gets : {A : Type 0} → Told A → List Event → Type 0
Gets step all = UpTo step.end (gets step.events) all

upto-append : {A : Type 0} (end : Result A TurnEnd) (first later all rest : List Event) → gets first ≡ all → UpTo end (gets later) rest → UpTo end (gets (first ++ later)) (all ++ rest)
upto-append (Ok value) first later all rest is upto = filter-append is_get first later ∙ (λ i. is i ++ upto i)
upto-append (Err end) first later all rest is upto =
    (upto.0, (λ i. sym is i ++ upto.1 i) ∙ sym (append_assoc (gets first) (gets later) upto.0) ∙ ap (λ front. front ++ upto.0) (sym (filter-append is_get first later)))

upto-then : {A B : Type 0} (events : List Event) (end : Result A TurnEnd) (next : A → Told B) (all rest : List Event) →
    UpTo end (gets events) all → ((value : A) → Gets (next value) rest) →
    (let step : Told A = record { events = events; end = end } in Gets (step then next) (all ++ rest))
upto-then events (Ok value) next all rest first later = upto-append (next value).end events (next value).events all rest first (later value)
upto-then events (Err end) next all rest first later = (first.0 ++ rest, ap (λ front. front ++ rest) first.1 ∙ append_assoc (gets events) first.0 rest)

-- the same where nothing more is to be delivered
pub upto-last : {A B : Type 0} (events : List Event) (end : Result A TurnEnd) (next : A → Told B) (all : List Event) →
    UpTo end (gets events) all → ((value : A) → Gets (next value) []) →
    (let step : Told A = record { events = events; end = end } in Gets (step then next) all)
upto-last events end next all first later =
    let step : Told _ = record { events = events; end = end } in
    subst (λ (list : List Event). Gets (step then next) list) (append-nil all) (upto-then events end next all [] first later)

upto-none : {A : Type 0} (end : Result A TurnEnd) (events : List Event) → gets events ≡ [] → UpTo end (gets events) []
upto-none (Ok value) events none = none
upto-none (Err end) events none = ([], sym none ∙ sym (append-nil (gets events)))

-- an event that is no get
abbrev IsOther : Event → Type 0
IsOther event = is_get event ≡ false

no-gets : (events : List Event) → AllByRecursion IsOther events → gets events ≡ []
no-gets [] others = refl
no-gets (event ∷ events) others = rw (others.0, no-gets events others.1) refl

other-starts : (path : Path) (name : Name) (event : Event) → IsStart (below path name) event → IsOther event
other-starts path name (AddNet at model) start = refl
other-starts path name (AddLeaf at model state next) start = refl
other-starts path name event start = absurd start

values-are : (path : Path) (model : ModelId) (port : ℕ) (values : List Value) (rest : List Event) → gets (gets_at path model port values ++ rest) ≡ gets_at path model port values ++ gets rest
values-are path model port [] rest = refl
values-are path model port (value ∷ values) rest = ap (λ more. Get path model port value ∷ more) (values-are path model port values rest)

gets-are : (path : Path) (model : ModelId) (port : ℕ) (got : Ports) → gets (gets_from path model port got) ≡ gets_from path model port got
gets-are path model port [] = refl
gets-are path model port (values ∷ later) =
    values-are path model port values (gets_from path model (port + 1) later) ∙ ap (λ more. gets_at path model port values ++ more) (gets-are path model (port + 1) later)

or-parts : (x y : Bool) → (x || y) ≡ false → (x ≡ false) × (y ≡ false)
or-parts true y h = absurd (let e : true ≡ false = h in cc)
or-parts false y h = (refl, h)

no-values : (path : Path) (model : ModelId) (port : ℕ) (values : List Value) → ltb 0 (length values) ≡ false → gets_at path model port values ≡ []
no-values path model port [] none = refl
no-values path model port (value ∷ values) none =
    absurd (let some : ltb 0 (length (value ∷ values)) ≡ true = lt-ltb 0 (length (value ∷ values)) (omega arith) in let e : true ≡ false = sym some ∙ none in cc)

none-came : (path : Path) (model : ModelId) (port : ℕ) (got : Ports) → has_come got ≡ false → gets_from path model port got ≡ []
none-came path model port [] none = refl
none-came path model port (values ∷ later) none =
    let parts = or-parts (ltb 0 (length values)) (has_come later) none in
    (λ i. no-values path model port values parts.0 i ++ none-came path model (port + 1) later parts.1 i)

kind-none : (due come : Bool) → (let kind : Option MoveKind = if due then (if come then Some Confluent else Some Internal) else (if come then Some External else None) in kind ≡ None) → come ≡ false
kind-none true true none = absurd (let e : Some Confluent ≡ None = none in cc)
kind-none true false none = refl
kind-none false true none = absurd (let e : Some External ≡ None = none in cc)
kind-none false false none = refl

module _ (system : System) where
  move-upto : (path : Path) (model : ModelId) (kind : MoveKind) (all : List Event) (moved : Result Leaf TurnEnd) → gets all ≡ all →
      Gets (telling all (quietly moved then (λ leaf. told (Move path model kind leaf.state leaf.next ∷ []) leaf))) all
  move-upto path model kind all (Ok leaf) are = filter-append is_get all (Move path model kind leaf.state leaf.next ∷ []) ∙ append-nil (gets all) ∙ are
  move-upto path model kind all (Err end) are = ([], sym are ∙ ap gets (sym (append-nil all)) ∙ sym (append-nil (gets (all ++ []))))

  take-upto : (leaf : Leaf) (kind : MoveKind) (path : Path) (time : ℕ) (got : Ports) → Gets (take_move system leaf kind path time got) (gets_from path leaf.model 0 got)
  take-upto leaf kind path time got = move-upto path leaf.model kind (gets_from path leaf.model 0 got) (at path (move_leaf system leaf kind time got)) (gets-are path leaf.model 0 got)

  leaf-upto-kind : (leaf : Leaf) (path : Path) (time : ℕ) (got : Ports) (kind : Option MoveKind) → kind_of leaf time got ≡ kind →
      (let step : Told Leaf = elim kind [ Some kind ↦ take_move system leaf kind path time got | None ↦ told [] leaf ] in Gets step (gets_from path leaf.model 0 got))
  leaf-upto-kind leaf path time got (Some kind) is = take-upto leaf kind path time got
  leaf-upto-kind leaf path time got None is = sym (none-came path leaf.model 0 got (kind-none (is_due leaf time) (has_come got) is))

  leaf-upto : (leaf : Leaf) (path : Path) (time : ℕ) (got : Ports) → Gets (move_leaf_at system leaf path time got) (gets_from path leaf.model 0 got)
  leaf-upto leaf path time got = leaf-upto-kind leaf path time got (kind_of leaf time got) refl

  after-others : (path : Path) (model : ModelId) (args : List Value) (kids : List Kid) (time room : ℕ) (boss : Leaf) → Gets (after_boss system model args kids path time room boss) []
  after-others path model args kids time room boss =
      let step = after_boss system model args kids path time room boss in
      upto-none step.end step.events (no-gets step.events (after_boss-told system IsOther path (λ at count. refl) (other-starts path) model args kids time room boss))

  boss-upto-kind : (model : ModelId) (args : List Value) (boss : Leaf) (links : List Link) (kids : List Kid) (path : Path) (time : ℕ) (got : Ports) (room : ℕ) (kind : Option MoveKind) → kind_of boss time got ≡ kind →
      (let step : Told (Net × ℕ) = elim kind [
        | Some kind ↦ take_move system boss kind (to_boss path) time got then after_boss system model args kids path time room
        | None ↦ told [] (net_of model args boss kids links, room)
      ] in Gets step (gets_from (to_boss path) boss.model 0 got))
  boss-upto-kind model args boss links kids path time got room (Some kind) is =
      let step = take_move system boss kind (to_boss path) time got in
      upto-last step.events step.end (after_boss system model args kids path time room) (gets_from (to_boss path) boss.model 0 got)
      (take-upto boss kind (to_boss path) time got) (after-others path model args kids time room)
  boss-upto-kind model args boss links kids path time got room None is = sym (none-came (to_boss path) boss.model 0 got (kind-none (is_due boss time) (has_come got) is))

  -- A move delivers what the links carry.
  abbrev pub Delivers : Sim → Type 0
  Delivers tree = (path : Path) (time : ℕ) (got : Ports) (room : ℕ) → Gets (move system tree path time got room) (flat_map gets_of (deliveries system tree path time got))

  delivers-leaf : (leaf : Leaf) → Delivers (sim.Leaf leaf)
  delivers-leaf leaf path time got room =
      let step = move_leaf_at system leaf path time got in
      let one : Delivery = record { path = path; model = leaf.model; ports = got } in
      let opened : Gets (step then as_leaf room) (gets_from path leaf.model 0 got) = upto-last step.events step.end (as_leaf room) (gets_from path leaf.model 0 got) (leaf-upto leaf path time got) (λ after. refl) in
      let all : flat_map gets_of (deliveries system (sim.Leaf leaf) path time got) ≡ gets_from path leaf.model 0 got =
      ap (flat_map gets_of) (deliveries-Leaf system leaf path time got) ∙ append-nil (gets_from path leaf.model 0 got) in
      subst (λ (t : Told (Sim × ℕ)). Gets t (flat_map gets_of (deliveries system (sim.Leaf leaf) path time got))) (sym (move-Leaf system leaf path time got room))
      (subst (λ (events : List Event). Gets (step then as_leaf room) events) (sym all) opened)

  delivers-kid : (kid : Kid) → Delivers (out-Kid kid).sim → (path : Path) (time : ℕ) (links : List Link) (sources : Sources) (room : ℕ) →
      Gets (kid_move system kid path time links sources room) (flat_map gets_of (deliveries_of_kid system kid path time links sources))
  delivers-kid kid delivers path time links sources room =
      let got = gathered system.translate links sources (part.Kid (name_of kid)) (ins_of system (out-Kid kid).sim) in
      let place = below path (name_of kid) in
      let step = move system (out-Kid kid).sim place time got room in
      let all = flat_map gets_of (deliveries_of_kid system kid path time links sources) in
      subst (λ (t : Told (Kid × ℕ)). Gets t all) (sym (kid_move-opens system kid path time links sources room))
      (upto-last step.events step.end _ all
      (subst (λ (list : List Delivery). Gets step (flat_map gets_of list)) (sym (deliveries-kid system kid path time links sources)) (delivers place time got room))
      (λ after. refl))

  abbrev of_kids : List Kid → Path → ℕ → List Link → Sources → List Delivery
  of_kids kids path time links sources = flat_map (λ (kid : KidReceives). kid path time links sources) (map (deliveries_of_kid system) kids)

  delivers-kids : (kids : List Kid) → AllByRecursion (λ kid. Delivers (out-Kid kid).sim) kids → (path : Path) (time : ℕ) (links : List Link) (sources : Sources) (room : ℕ) (done : List Kid) →
      Gets (moved (map (kid_move system) kids) path time links sources room done) (flat_map gets_of (of_kids kids path time links sources))
  delivers-kids [] delivers path time links sources room done = refl
  delivers-kids (kid ∷ kids) delivers path time links sources room done =
      let step = kid_move system kid path time links sources room in
      let here = deliveries_of_kid system kid path time links sources in
      let later = of_kids kids path time links sources in
      subst (λ (events : List Event). Gets (moved (map (kid_move system) (kid ∷ kids)) path time links sources room done) events) (sym (flat_map-append gets_of here later))
      (upto-then step.events step.end _ (flat_map gets_of here) (flat_map gets_of later)
      (delivers-kid kid delivers.0 path time links sources room)
      (λ one. delivers-kids kids delivers.1 path time links sources one.1 (done ++ one.0 ∷ [])))

  delivers-sources : (net : Net) → AllByRecursion (λ kid. Delivers (out-Kid kid).sim) (out-Net net).kids → (path : Path) (time room : ℕ) (known : Result Sources TurnEnd) →
      (let all : List Delivery = elim known [ Ok sources ↦ shared system (out-Net net).boss (map (deliveries_of_kid system) (out-Net net).kids) (out-Net net).links path time sources | Err end ↦ [] ] in
      Gets (quietly known then with_sources system (out-Net net).model (out-Net net).args (out-Net net).boss (map (kid_move system) (out-Net net).kids) (out-Net net).links path time room) (flat_map gets_of all))
  delivers-sources net delivers path time room (Err end) = ([], refl)
  delivers-sources net delivers path time room (Ok sources) =
      let open_net = out-Net net in
      let kids_moves = map (kid_move system) open_net.kids in
      let boss_got = gathered system.translate open_net.links sources part.Boss (component_of system open_net.boss).ins in
      let step = moved kids_moves path time open_net.links sources room [] in
      let in_kids = of_kids open_net.kids path time open_net.links sources in
      let in_boss : List Delivery = record { path = to_boss path; model = open_net.boss.model; ports = boss_got } ∷ [] in
      subst (λ (events : List Event). Gets (with_sources system open_net.model open_net.args open_net.boss kids_moves open_net.links path time room sources) events) (sym (flat_map-append gets_of in_kids in_boss))
      (upto-then step.events step.end (after_kids system open_net.model open_net.args open_net.boss open_net.links path time sources) (flat_map gets_of in_kids) (flat_map gets_of in_boss)
      (delivers-kids open_net.kids delivers path time open_net.links sources room [])
      (λ kids. subst (λ (events : List Event). Gets (boss_moves system open_net.model open_net.args open_net.boss open_net.links kids.0 path time boss_got kids.1) events)
      (sym (append-nil (gets_from (to_boss path) open_net.boss.model 0 boss_got)))
      (boss-upto-kind open_net.model open_net.args open_net.boss open_net.links kids.0 path time boss_got kids.1 (kind_of open_net.boss time boss_got) refl)))

  delivers-net : (net : Net) → AllByRecursion (λ kid. Delivers (out-Kid kid).sim) (out-Net net).kids → Delivers (sim.Net net)
  delivers-net net delivers path time got room =
      let open_net = out-Net net in
      let step = net_move system net path time got room in
      let all = flat_map gets_of (deliveries system (sim.Net net) path time got) in
      subst (λ (t : Told (Sim × ℕ)). Gets t all) (sym (move-Net system net path time got room))
      (upto-last step.events step.end as_net all
      (subst (λ (t : Told (Net × ℕ)). Gets t all) (sym (net_move-opens system net path time got room))
      (subst (λ (list : List Delivery). Gets (net_moves system open_net.model open_net.args open_net.boss (map (kid_output system) open_net.kids) (map (kid_move system) open_net.kids) open_net.links path time got room) (flat_map gets_of list))
      (sym (deliveries-Net system net path time got))
      (delivers-sources net delivers path time room (sources_of system (map (kid_output system) open_net.kids) open_net.boss path time got))))
      (λ after. refl))

  pub moves-deliver : (tree : Sim) → Delivers tree
  moves-deliver = each_tree Delivers delivers-leaf delivers-net
