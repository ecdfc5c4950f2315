-- What was added is not reached afterwards.
use Rattle.std.proofs.Common.{◌≡◌, ℕ, List, [], ◌∷◌, ◌++◌, map, Option, Some, None, Result, Ok, Err, refl, sym, ◌∙◌, ap, subst, append_assoc, append-nil, inl, inr}
use Rattle.std.proofs.lemmas.Cmp.{tied_itself}
use Rattle.std.proofs.lemmas.List.{append_cancel_left}
use Rattle.std.proofs.lemmas.Map.Keys.{sorted_head, sorted_tail}
use Rattle.std.proofs.lemmas.Simd.{map-map}
use Rattle.std.specs.Cmp.{IsTotalOrder}
use Rattle.std.specs.List.{AllByRecursion, flat_map}
use Rattle.std.specs.declared.cmp.Ordering.TheVariants.{Less, Equal}
use Rattle.dsde_values.specs.declared.name.Name.{Name}
use Rattle.dsde_values.specs.declared.path.Path.{Path}
use Rattle.dsde_values.specs.declared.value.Value.{Value}
use Rattle.dsde_values.specs.Path.{EXEC, name_cmp}
use Rattle.dsde_sim_tree.specs.given.language.ids_ModelId.{ModelId}
use Rattle.dsde_sim_tree.specs.given.formalism.leaf_Leaf.{Leaf}
use Rattle.dsde_sim_tree.specs.given.formalism.leaf_MoveKind.{MoveKind}
use Rattle.dsde_sim_tree.specs.given.formalism.Leaf.{kind_of, component_of}
use Rattle.dsde_sim_tree.specs.given.formalism.System.{System, Ports}
use Rattle.dsde_sim_tree.specs.given.structure.plan_Link.{Link}
use Rattle.dsde_sim_tree.specs.given.structure.plan_Part_TheVariants as part
use Rattle.dsde_sim_tree.specs.given.structure.sources_Sources.{Sources}
use Rattle.dsde_sim_tree.specs.given.structure.Gather.{gathered}
use Rattle.dsde_sim_tree.specs.given.structure.Survival.{AreInOrder}
use Rattle.dsde_sim_tree.specs.declared.event.Event.{Event}
use Rattle.dsde_sim_tree.specs.declared.event.Event.TheVariants.{AddNet, AddLeaf}
use Rattle.dsde_sim_tree.specs.declared.fault.TurnEnd.{TurnEnd}
use Rattle.dsde_sim_tree.specs.Told.{below, Told, told, ◌then◌, to_boss}
use Rattle.dsde_sim_tree.specs.declared.sim.Kid.{Kid}
use Rattle.dsde_sim_tree.specs.declared.sim.Net.{Net}
use Rattle.dsde_sim_tree.specs.declared.sim.Sim.{Sim}
use Rattle.dsde_sim_tree.specs.declared.sim.Sim.TheVariants as sim
use Rattle.dsde_sim_tree.specs.declared.sim.Sim.TheViews.{out-Kid, out-Net}
use Rattle.dsde_sim_tree.specs.Move.{take_move, move_leaf_at, moved, after_boss, after_kids, with_sources, net_moves, move, kid_move, net_move, ins_of}
use Rattle.dsde_sim_tree.specs.Opened.{shape_in, spots-Net, spots-kid, spots-net, as_leaf, as_net, move-Leaf, move-Net, kid_move-opens, net_move-opens}
use Rattle.dsde_sim_tree.specs.Output.{sources_of, kid_output}
use Rattle.dsde_sim_tree.specs.Spots.{spots_of_kid}
use Rattle.dsde_sim_tree.specs.Start.{net_of}
use Rattle.dsde_sim_tree.specs.Tree.{entry_of, name_of}
use Rattle.dsde_sim_tree.specs.lemmas.Trees.{each_tree}
use Rattle.dsde_sim_movers.specs.Places.{paths_from, paths_of_kid, added, reached, HasOrder, IsInOrder}
use Rattle.dsde_sim_movers.specs.lemmas.Events.{each-append, each-weaker, each-then, Among, among-cases, each-among, each-flat}
use Rattle.dsde_sim_movers.specs.lemmas.Opens.{paths-Leaf, paths-Net, paths-kid}
use Rattle.dsde_sim_movers.proofs.Adds.{IsStart}
use Rattle.dsde_sim_movers.proofs.DeliveryTelling.{take-told, leaf-told, after_boss-told}
use Rattle.dsde_sim_movers.proofs.Reaching.{IsBelow, IsOf, kid-of, kids-of, boss-of, moves-of, MovesOf, paths_of_kids, added-below, reached-among}

-- What the one adds the other does not reach.
abbrev pub IsApart : Event → Event → Type 0
IsApart one other = (path : Path) → Among path (added one) → Among path (reached other) → ⊥

abbrev pub AreApart : List Event → List Event → Type 0
AreApart some others = AllByRecursion (λ one. AllByRecursion (IsApart one) others) some

-- What an event adds none behind it reaches.
abbrev pub IsCalm : List Event → Type 0
IsCalm [] = Unit {0}
IsCalm (event ∷ events) = AllByRecursion (IsApart event) events × IsCalm events

pub calm-append : (xs ys : List Event) → IsCalm xs → IsCalm ys → AreApart xs ys → IsCalm (xs ++ ys)
calm-append [] ys first later apart = later
calm-append (x ∷ xs) ys first later apart = (each-append (IsApart x) xs ys first.0 apart.0, calm-append xs ys first.1 later apart.1)

pub calm-then : {A B : Type 0} (events : List Event) (end : Result A TurnEnd) (next : A → Told B) →
    IsCalm events → ((value : A) → IsCalm (next value).events) → ((value : A) → AreApart events (next value).events) →
    (let step : Told A = record { events = events; end = end } in IsCalm (step then next).events)
calm-then events (Ok value) next first later apart = calm-append events (next value).events first (later value) (apart value)
calm-then events (Err end) next first later apart = first

pub each-one : (x : Event) (Q : Event → Type 0) → ((y : Event) → Q y → IsApart x y) → (ys : List Event) → AllByRecursion Q ys → AllByRecursion (IsApart x) ys
each-one x Q gives ys each = each-weaker Q (IsApart x) gives ys each

pub apart-by : (P Q : Event → Type 0) → ((x y : Event) → P x → Q y → IsApart x y) → (xs ys : List Event) → AllByRecursion P xs → AllByRecursion Q ys → AreApart xs ys
apart-by P Q gives [] ys some others = tt
apart-by P Q gives (x ∷ xs) ys some others = (each-one x Q (λ y q. gives x y some.0 q) ys others, apart-by P Q gives xs ys some.1 others)

-- an event that reaches nothing, and one that adds nothing
abbrev pub IsStill : Event → Type 0
IsStill event = (path : Path) → Among path (reached event) → ⊥

abbrev pub AddsNone : Event → Type 0
AddsNone event = (path : Path) → Among path (added event) → ⊥

calm-still : (events : List Event) → AllByRecursion IsStill events → IsCalm events
calm-still [] still = tt
calm-still (event ∷ events) still = (each-one event IsStill (λ y is path in_one in_other. is path in_other) events still.1, calm-still events still.1)

pub calm-addless : (events : List Event) → AllByRecursion AddsNone events → IsCalm events
calm-addless [] none = tt
calm-addless (event ∷ events) none = (each-one event AddsNone (λ y is path in_one in_other. none.0 path in_one) events none.1, calm-addless events none.1)

pub apart-still : (xs ys : List Event) → AllByRecursion IsStill ys → AreApart xs ys
apart-still [] ys still = tt
apart-still (x ∷ xs) ys still = (each-one x IsStill (λ y is path in_one in_other. is path in_other) ys still, apart-still xs ys still)

apart-from-addless : (x : Event) → AddsNone x → (ys : List Event) → AllByRecursion (IsApart x) ys
apart-from-addless x none [] = tt
apart-from-addless x none (y ∷ ys) = (λ path in_one in_other. none path in_one, apart-from-addless x none ys)

pub apart-addless : (xs ys : List Event) → AllByRecursion AddsNone xs → AreApart xs ys
apart-addless [] ys none = tt
apart-addless (x ∷ xs) ys none = (apart-from-addless x none.0 ys, apart-addless xs ys none.1)

still-starts : (path : Path) (name : Name) (event : Event) → IsStart (below path name) event → IsStill event
still-starts path name (AddNet at model) start = λ p there. there
still-starts path name (AddLeaf at model state next) start = λ p there. there
still-starts path name event start = absurd start

-- a path at another or below it
abbrev IsBeneath : Path → Path → Type 0
IsBeneath path at = (beneath : List Name) × (at.names ≡ path.names ++ beneath)

abbrev Beneath : Sim → Type 0
Beneath tree = (path at : Path) → Among at (paths_from tree path) → IsBeneath path at

module _ (system : System) (total : IsTotalOrder name_cmp) where
  -- a path of a part of these components
  abbrev OfKids : Path → List Kid → Path → Type 0
  OfKids path kids at = (name : Name) × (beneath : List Name) × (at.names ≡ path.names ++ name ∷ beneath) × Among name (map name_of kids)

  kids-beneath : (kids : List Kid) → AllByRecursion (λ kid. Beneath (out-Kid kid).sim) kids → (path at : Path) → Among at (paths_of_kids path kids) → OfKids path kids at
  kids-beneath [] each path at there = absurd there
  kids-beneath (kid ∷ kids) each path at there = elim (among-cases at (paths_of_kid kid path) (paths_of_kids path kids) there) [
    | inl here ↦
        let found = each.0 (below path (name_of kid)) at (subst (λ (ps : List Path). Among at ps) (paths-kid kid path) here) in
        (name_of kid, found.0, found.1 ∙ append_assoc path.names (name_of kid ∷ []) found.0, inl refl)
    | inr behind ↦ let found = kids-beneath kids each.1 path at behind in (found.0, found.1, found.2, inr found.3)
  ]

  beneath-leaf : (leaf : Leaf) → Beneath (sim.Leaf leaf)
  beneath-leaf leaf path at there = elim (subst (λ (ps : List Path). Among at ps) (paths-Leaf leaf path) there) [
    | inl same ↦ ([], ap (λ (q : Path). q.names) same ∙ sym (append-nil path.names))
    | inr none ↦ absurd none
  ]

  beneath-net : (net : Net) → AllByRecursion (λ kid. Beneath (out-Kid kid).sim) (out-Net net).kids → Beneath (sim.Net net)
  beneath-net net each path at there = elim (subst (λ (ps : List Path). Among at ps) (paths-Net net path) there) [
    | inl same ↦ ([], ap (λ (q : Path). q.names) same ∙ sym (append-nil path.names))
    | inr within ↦ elim (among-cases at (paths_of_kids path (out-Net net).kids) (to_boss path ∷ []) within) [
      | inl in_kids ↦ let found = kids-beneath (out-Net net).kids each path at in_kids in (found.0 ∷ found.1, found.2)
      | inr in_boss ↦ elim in_boss [ inl same ↦ (EXEC ∷ [], ap (λ (q : Path). q.names) same) | inr none ↦ absurd none ]
    ]
  ]

  beneath : (tree : Sim) → Beneath tree
  beneath = each_tree Beneath beneath-leaf beneath-net

  all_beneath : (kids : List Kid) → AllByRecursion (λ kid. Beneath (out-Kid kid).sim) kids
  all_beneath [] = tt
  all_beneath (kid ∷ kids) = (beneath (out-Kid kid).sim, all_beneath kids)

  -- what a component adds is no part of components of other names
  no_kid : (path : Path) (name : Name) (kids : List Kid) → AllByRecursion (λ later. name_cmp name later ≡ Less) (map name_of kids) →
      (at other : Path) → IsBelow (below path name) at → OfKids path kids other → at ≡ other → ⊥
  no_kid path name kids less at other lower found same =
      let tails : name ∷ lower.0 ∷ lower.1 ≡ found.0 ∷ found.1 =
      append_cancel_left path.names (name ∷ lower.0 ∷ lower.1) (found.0 ∷ found.1) (sym (append_assoc path.names (name ∷ []) (lower.0 ∷ lower.1)) ∙ sym lower.2 ∙ ap (λ (q : Path). q.names) same ∙ found.2) in
      let is_name : name ≡ found.0 = cc in
      let is_less = each-among (λ later. name_cmp name later ≡ Less) (map name_of kids) found.0 less found.3 in
      let is_equal : name_cmp name found.0 ≡ Equal = subst (λ (n : Name). name_cmp name n ≡ Equal) is_name (tied_itself total name) in
      let wrong : Less ≡ Equal = sym is_less ∙ is_equal in cc

  all_of : (kids : List Kid) → AllByRecursion (λ kid. MovesOf system (out-Kid kid).sim) kids
  all_of [] = tt
  all_of (kid ∷ kids) = (moves-of system (out-Kid kid).sim, all_of kids)

  -- The moves tell calmly, where the names are distinct.
  abbrev pub MovesCalmly : Sim → Type 0
  MovesCalmly tree = IsInOrder tree → (path : Path) (time : ℕ) (got : Ports) (room : ℕ) → IsCalm (move system tree path time got room).events

  leaf-kind-addless : (leaf : Leaf) (path : Path) (time : ℕ) (got : Ports) → AllByRecursion AddsNone (move_leaf_at system leaf path time got).events
  leaf-kind-addless leaf path time got = leaf-told system AddsNone path (λ model port value at there. there) (λ model kind state next at there. there) leaf time got

  calm-leaf : (leaf : Leaf) → MovesCalmly (sim.Leaf leaf)
  calm-leaf leaf order path time got room =
      let step = move_leaf_at system leaf path time got in
      subst (λ (t : Told (Sim × ℕ)). IsCalm t.events) (sym (move-Leaf system leaf path time got room))
      (calm-then step.events step.end (as_leaf room) (calm-addless step.events (leaf-kind-addless leaf path time got)) (λ after. tt) (λ after. apart-still step.events [] tt))

  calm-kid : (kid : Kid) → MovesCalmly (out-Kid kid).sim → IsInOrder (out-Kid kid).sim → (path : Path) (time : ℕ) (links : List Link) (sources : Sources) (room : ℕ) →
      IsCalm (kid_move system kid path time links sources room).events
  calm-kid kid calm order path time links sources room =
      let got = gathered system.translate links sources (part.Kid (name_of kid)) (ins_of system (out-Kid kid).sim) in
      let step = move system (out-Kid kid).sim (below path (name_of kid)) time got room in
      subst (λ (t : Told (Kid × ℕ)). IsCalm t.events) (sym (kid_move-opens system kid path time links sources room))
      (calm-then step.events step.end _ (calm order (below path (name_of kid)) time got room) (λ after. tt) (λ after. apart-still step.events [] tt))

  calm-kids : (kids : List Kid) → AllByRecursion (λ kid. MovesCalmly (out-Kid kid).sim) kids → AllByRecursion (λ kid. IsInOrder (out-Kid kid).sim) kids → AreInOrder (map name_of kids) →
      (path : Path) (time : ℕ) (links : List Link) (sources : Sources) (room : ℕ) (done : List Kid) →
      IsCalm (moved (map (kid_move system) kids) path time links sources room done).events
  calm-kids [] calm order sorted path time links sources room done = tt
  calm-kids (kid ∷ kids) calm order sorted path time links sources room done =
      let step = kid_move system kid path time links sources room in
      calm-then step.events step.end _
      (calm-kid kid calm.0 order.0 path time links sources room)
      (λ one. calm-kids kids calm.1 order.1 (sorted_tail name_cmp (name_of kid) (map name_of kids) sorted) path time links sources one.1 (done ++ one.0 ∷ []))
      (λ one. apart-by (IsOf (paths_of_kid kid path) (below path (name_of kid))) (IsOf (paths_of_kids path kids) path)
      (λ x y of_x of_y at in_x in_y.
      no_kid path (name_of kid) kids (sorted_head name_cmp (name_of kid) (map name_of kids) sorted) at at
      (added-below (paths_of_kid kid path) (below path (name_of kid)) x of_x at in_x)
      (kids-beneath kids (all_beneath kids) path at (reached-among (paths_of_kids path kids) path y of_y at in_y)) refl)
      step.events _
      (kid-of system kid (moves-of system (out-Kid kid).sim) path time links sources room)
      (kids-of system kids (all_of kids) path time links sources one.1 (done ++ one.0 ∷ [])))

  -- what components add stands at least two names below the network
  abbrev IsDeep : Path → Event → Type 0
  IsDeep path event = (at : Path) → Among at (added event) → (name : Name) × IsBelow (below path name) at

  kids-deep : (kids : List Kid) (path : Path) (time : ℕ) (links : List Link) (sources : Sources) (room : ℕ) (done : List Kid) →
      AllByRecursion (IsDeep path) (moved (map (kid_move system) kids) path time links sources room done).events
  kids-deep [] path time links sources room done = tt
  kids-deep (kid ∷ kids) path time links sources room done =
      let step = kid_move system kid path time links sources room in
      each-then (IsDeep path) step.events step.end _
      (each-weaker (IsOf (paths_of_kid kid path) (below path (name_of kid))) (IsDeep path)
      (λ event is at there. (name_of kid, added-below (paths_of_kid kid path) (below path (name_of kid)) event is at there))
      step.events (kid-of system kid (moves-of system (out-Kid kid).sim) path time links sources room))
      (λ one. kids-deep kids path time links sources one.1 (done ++ one.0 ∷ []))

  not_boss : (path : Path) (x y : Event) → IsDeep path x → IsOf (to_boss path ∷ []) path y → IsApart x y
  not_boss path x y deep of_y at in_x in_y =
      let lower = deep at in_x in
      elim (reached-among (to_boss path ∷ []) path y of_y at in_y) [
        | inl same ↦
            let tails : lower.0 ∷ lower.1.0 ∷ lower.1.1 ≡ EXEC ∷ [] =
            append_cancel_left path.names (lower.0 ∷ lower.1.0 ∷ lower.1.1) (EXEC ∷ []) (sym (append_assoc path.names (lower.0 ∷ []) (lower.1.0 ∷ lower.1.1)) ∙ sym lower.1.2 ∙ ap (λ (q : Path). q.names) same) in
            cc
        | inr none ↦ absurd none
      ]

  after-still : (path : Path) (model : ModelId) (args : List Value) (kids : List Kid) (time room : ℕ) (boss : Leaf) → AllByRecursion IsStill (after_boss system model args kids path time room boss).events
  after-still path model args kids time room boss =
      after_boss-told system IsStill path (λ at count p there. there) (still-starts path) model args kids time room boss

  calm-boss-kind : (model : ModelId) (args : List Value) (boss : Leaf) (links : List Link) (kids : List Kid) (kind : Option MoveKind) (path : Path) (time : ℕ) (got : Ports) (room : ℕ) →
      (let step : Told (Net × ℕ) = elim kind [
        | Some kind ↦ take_move system boss kind (to_boss path) time got then after_boss system model args kids path time room
        | None ↦ told [] (net_of model args boss kids links, room)
      ] in IsCalm step.events)
  calm-boss-kind model args boss links kids (Some kind) path time got room =
      let step = take_move system boss kind (to_boss path) time got in
      calm-then step.events step.end (after_boss system model args kids path time room)
      (calm-addless step.events (take-told system AddsNone (to_boss path) (λ model port value at there. there) (λ model kind state next at there. there) boss kind time got))
      (λ after. calm-still _ (after-still path model args kids time room after))
      (λ after. apart-still step.events _ (after-still path model args kids time room after))
  calm-boss-kind model args boss links kids None path time got room = tt

  -- the components of a network in order stand in the order of their names, and each is in order
  net-orders : (net : Net) → IsInOrder (sim.Net net) → AreInOrder (map name_of (out-Net net).kids) × AllByRecursion (λ kid. IsInOrder (out-Kid kid).sim) (out-Net net).kids
  net-orders net order =
      let kids = (out-Net net).kids in
      let all : AllByRecursion HasOrder (inr (shape_in net) ∷ flat_map spots_of_kid kids) = subst (AllByRecursion HasOrder) (spots-Net net ∙ spots-net net) order in (
        subst AreInOrder (map-map (λ entry. entry.name) entry_of kids) all.0,
        each-weaker (λ kid. AllByRecursion HasOrder (spots_of_kid kid)) (λ kid. IsInOrder (out-Kid kid).sim) (λ kid. subst (AllByRecursion HasOrder) (spots-kid kid)) kids
            (each-flat HasOrder spots_of_kid kids all.1),
      )

  calm-net : (net : Net) → AllByRecursion (λ kid. MovesCalmly (out-Kid kid).sim) (out-Net net).kids → MovesCalmly (sim.Net net)
  calm-net net calm order path time got room =
      let open_net = out-Net net in
      let orders = net-orders net order in
      let answers = map (kid_output system) open_net.kids in
      let kids_moves = map (kid_move system) open_net.kids in
      let whole = net_moves system open_net.model open_net.args open_net.boss answers kids_moves open_net.links path time got room in
      let calm_whole : IsCalm whole.events =
      calm-then [] (sources_of system answers open_net.boss path time got)
      (with_sources system open_net.model open_net.args open_net.boss kids_moves open_net.links path time room) tt (λ sources.
      let step = moved kids_moves path time open_net.links sources room [] in
      let boss_got = gathered system.translate open_net.links sources part.Boss (component_of system open_net.boss).ins in
      calm-then step.events step.end (after_kids system open_net.model open_net.args open_net.boss open_net.links path time sources)
      (calm-kids open_net.kids calm orders.1 orders.0 path time open_net.links sources room [])
      (λ kids. calm-boss-kind open_net.model open_net.args open_net.boss open_net.links kids.0 (kind_of open_net.boss time boss_got) path time boss_got kids.1)
      (λ kids. apart-by (IsDeep path) (IsOf (to_boss path ∷ []) path) (not_boss path) step.events _
      (kids-deep open_net.kids path time open_net.links sources room [])
      (boss-of system (to_boss path ∷ []) path open_net.model open_net.args open_net.boss open_net.links kids.0 (inl refl) time boss_got kids.1)))
      (λ sources. tt) in
      let step = net_move system net path time got room in
      let opened : IsCalm step.events = subst (λ (t : Told (Net × ℕ)). IsCalm t.events) (sym (net_move-opens system net path time got room)) calm_whole in
      subst (λ (t : Told (Sim × ℕ)). IsCalm t.events) (sym (move-Net system net path time got room))
      (calm-then step.events step.end as_net opened (λ after. tt) (λ after. apart-still step.events [] tt))

  pub moves-calmly : (tree : Sim) → MovesCalmly tree
  moves-calmly = each_tree MovesCalmly calm-leaf calm-net
