-- A part of a tree moves as its movers do, one after another.
use Rattle.std.proofs.Common.{◌≡◌, ℕ, ◌||◌, Bool, true, false, List, [], ◌∷◌, ◌++◌, map, length, drop, Option, Some, None, Result, Ok, Err, refl, sym, ◌∙◌, ap, subst, append_assoc, append-nil, cond}
use Rattle.std.proofs.lemmas.List.{map-append}
use Rattle.std.proofs.lemmas.List.Elements.{filter-append}
use Rattle.std.proofs.lemmas.Map.Keys.{IsDistinct-head, IsDistinct-tail}
use Rattle.std.specs.Cmp.{IsTotalOrder}
use Rattle.std.specs.List.{AllByRecursion, IsDistinct, flat_map, filter}
use Rattle.std.specs.Prelude.{if◌then◌else◌}
use Rattle.dsde_sim_tree.specs.Tree.{name_of}
use Rattle.dsde_values.specs.declared.name.Name.{Name}
use Rattle.dsde_values.specs.declared.path.Path.{Path}
use Rattle.dsde_values.specs.declared.value.Value.{Value}
use Rattle.dsde_values.specs.Path.{name_cmp, EXEC}
use Rattle.dsde_sim_tree.specs.given.language.ids_ModelId.{ModelId}
use Rattle.dsde_sim_tree.specs.given.formalism.leaf_Leaf.{Leaf}
use Rattle.dsde_sim_tree.specs.given.formalism.leaf_MoveKind.{MoveKind}
use Rattle.dsde_sim_tree.specs.given.formalism.leaf_MoveKind_TheVariants.{Internal, External, Confluent}
use Rattle.dsde_sim_tree.specs.given.formalism.Leaf.{is_due, has_come, component_of}
use Rattle.dsde_sim_tree.specs.given.formalism.System.{System, Ports}
use Rattle.dsde_sim_tree.specs.given.structure.plan_Link.{Link}
use Rattle.dsde_sim_tree.specs.given.structure.plan_Part_TheVariants as part
use Rattle.dsde_sim_tree.specs.given.structure.sources_Sources.{Sources}
use Rattle.dsde_sim_tree.specs.given.structure.Gather.{gathered, is_same_name}
use Rattle.dsde_sim_tree.specs.declared.fault.TurnEnd.{TurnEnd}
use Rattle.dsde_sim_tree.specs.Told.{below, Told, told, quietly, ◌then◌, to_boss}
use Rattle.dsde_sim_tree.specs.declared.sim.Kid.{Kid}
use Rattle.dsde_sim_tree.specs.declared.sim.Net.{Net}
use Rattle.dsde_sim_tree.specs.declared.sim.Sim.{Sim}
use Rattle.dsde_sim_tree.specs.declared.sim.Sim.TheVariants as sim
use Rattle.dsde_sim_tree.specs.declared.sim.Sim.TheViews.{out-Kid, out-Net}
use Rattle.dsde_sim_tree.specs.Move.{take_move, move_leaf_at, moved, after_boss, boss_moves, after_kids, with_sources, move, kid_move, ins_of}
use Rattle.dsde_sim_tree.specs.Opened.{as_leaf, as_net, move-Leaf, move-Net, kid_move-opens, net_move-opens}
use Rattle.dsde_sim_tree.specs.Output.{output}
use Rattle.dsde_sim_tree.specs.Start.{kid_of, net_of}
use Rattle.dsde_sim_tree.specs.lemmas.Trees.{each_tree}
use Rattle.dsde_sim_movers.specs.Deliveries.{Delivery, KidReceives, shared, deliveries, deliveries_of_kid}
use Rattle.dsde_sim_movers.specs.lemmas.Asking.{asked-again}
use Rattle.dsde_sim_movers.specs.lemmas.Events.{each-filter, each-weaker}
use Rattle.dsde_sim_movers.specs.lemmas.Opens.{deliveries-Leaf, deliveries-Net, deliveries-kid}
use Rattle.dsde_sim_movers.specs.Movers.{Seat, seat_of, leaf_in, leaf_at, moves, path_behind, move_at, seat_behind, move_one, move_each, is_called, is_mover, movers}
use Rattle.dsde_sim_movers.specs.lemmas.Steps.{then-told, then-assoc, then-same}
use Rattle.dsde_sim_movers.specs.lemmas.Seats.{out-Leaf, whole, whole-of, same-kid, named, NoneNamed, boss-moves-whole, leaf-moves-leaf, boss-at-whole, drop-front, IsBehind, net_with, with_room, move_one-within, is_mover-within}
use Rattle.dsde_sim_movers.specs.lemmas.Beneath.{AreBehind, behind-kid}
use Rattle.dsde_sim_movers.specs.lemmas.Named.{same_name, IsPlaced, names-of, net-places}

pub filter-same : {X : Type 0} (test other : X → Bool) (xs : List X) → AllByRecursion (λ x. test x ≡ other x) xs → filter test xs ≡ filter other xs
filter-same test other [] same = refl
filter-same test other (x ∷ xs) same = λ i. cond (same.0 i) (x ∷ filter-same test other xs same.1 i) (filter-same test other xs same.1 i)

pub seat-itself : (path : Path) → seat_behind path path ≡ record { names = []; is_boss = false }
seat-itself path = ap (λ (names : List Name). seat_of (drop (length path.names) names)) (sym (append-nil path.names)) ∙ ap seat_of (drop-front path.names [])

-- who is not called does not move
not-called : (due come : Bool) → (due || come) ≡ false →
    (let kind : Option MoveKind = if due then (if come then Some Confluent else Some Internal) else (if come then Some External else None) in kind ≡ None)
not-called true come is = absurd (let e : true ≡ false = is in cc)
not-called false true is = absurd (let e : true ≡ false = is in cc)
not-called false false is = refl

module _ (e : Name → Name → Bool) where
  at-name : (P : Name → Type 0) (done : List Kid) (kid : Kid) (kids : List Kid) → AllByRecursion P (map name_of (done ++ kid ∷ kids)) → P (name_of kid)
  at-name P [] kid kids all = all.0
  at-name P (other ∷ done) kid kids all = at-name P done kid kids all.1

  pub none-before : (done : List Kid) (kid : Kid) (kids : List Kid) → IsDistinct e (map name_of (done ++ kid ∷ kids)) → AllByRecursion (λ own. e (name_of own) (name_of kid) ≡ false) done
  none-before [] kid kids distinct = tt
  none-before (own ∷ done) kid kids distinct =
      let names = map name_of (done ++ kid ∷ kids) in (
        at-name (λ name. e (name_of own) name ≡ false) done kid kids (IsDistinct-head e (name_of own) names distinct),
        none-before done kid kids (IsDistinct-tail e (name_of own) names distinct),
      )

-- the names stay where a component is another of its name
pub names-stay : (done : List Kid) (kid : Kid) (kids : List Kid) (own : Sim) → map name_of (done ++ kid ∷ kids) ≡ map name_of ((done ++ kid_of (name_of kid) own ∷ []) ++ kids)
names-stay done kid kids own =
    map-append name_of done (kid ∷ kids)
    ∙ ap (λ (name : Name). map name_of done ++ name ∷ map name_of kids) (sym (named (name_of kid) own))
    ∙ sym (map-append name_of done (kid_of (name_of kid) own ∷ kids))
    ∙ ap (map name_of) (sym (append_assoc done (kid_of (name_of kid) own ∷ []) kids))

module _ (total : IsTotalOrder name_cmp) (system : System) where
  each-append : (path : Path) (time : ℕ) (xs ys : List Delivery) (tree : Sim) (room : ℕ) →
      move_each system path time (xs ++ ys) tree room ≡ (move_each system path time xs tree room then (λ after. move_each system path time ys after.0 after.1))
  each-append path time [] ys tree room = refl
  each-append path time (own ∷ xs) ys tree room =
      then-same (move_one system path time own tree room) _ _ (λ after. each-append path time xs ys after.0 after.1)
      ∙ sym (then-assoc (move_one system path time own tree room) (λ after. move_each system path time xs after.0 after.1) (λ after. move_each system path time ys after.0 after.1))

  -- a single mover
  each-one : (path : Path) (time : ℕ) (own : Delivery) (tree : Sim) (room : ℕ) → move_each system path time (own ∷ []) tree room ≡ move_one system path time own tree room
  each-one path time own tree room = then-told (move_one system path time own tree room)

  -- movers beneath a component of a network
  each-within : (model : ModelId) (args : List Value) (boss : Leaf) (links : List Link) (done later : List Kid) (name : Name) → NoneNamed name done → (path : Path) (time : ℕ) → is_same_name EXEC name ≡ false →
      (list : List Delivery) → AreBehind (below path name) list → (own : Sim) (room : ℕ) →
      move_each system path time list (net_with model args boss links done later name own) room
      ≡ (move_each system (below path name) time list own room then with_room (net_with model args boss links done later name))
  each-within model args boss links done later name none path time not_exec [] behind own room = refl
  each-within model args boss links done later name none path time not_exec (one ∷ list) behind own room =
      let within = net_with model args boss links done later name in
      let first = move_one system (below path name) time one own room in
      ap (λ (step : Told (Sim × ℕ)). step then (λ after. move_each system path time list after.0 after.1))
      (move_one-within (same_name total) model args boss links done later name none system path time not_exec one behind.0 own room)
      ∙ then-assoc first (with_room within) (λ after. move_each system path time list after.0 after.1)
      ∙ then-same first _ _ (λ after. each-within model args boss links done later name none path time not_exec list behind.1 after.0 after.1)
      ∙ sym (then-assoc first (λ after. move_each system (below path name) time list after.0 after.1) (with_room within))

  -- a part moves as its movers do
  abbrev pub MovesByMovers : Sim → Type 0
  MovesByMovers tree = (path : Path) (time : ℕ) (got sent : Ports) (room : ℕ) → IsPlaced tree → output system tree path time ≡ Ok sent →
      move system tree path time got room ≡ move_each system path time (movers system tree path time got) tree room

  of-leaf-by : (leaf : Leaf) (path : Path) (time : ℕ) (got : Ports) (room : ℕ) (called : Bool) → (is_due leaf time || has_come got) ≡ called →
      (let own : Delivery = record { path = path; model = leaf.model; ports = got } in
      (move_leaf_at system leaf path time got then as_leaf room) ≡ move_each system path time (cond called (own ∷ []) []) (sim.Leaf leaf) room)
  of-leaf-by leaf path time got room true is =
      let own : Delivery = record { path = path; model = leaf.model; ports = got } in
      sym (each-one path time own (sim.Leaf leaf) room
      ∙ ap (λ (seat : Seat). move_at system path time seat got (sim.Leaf leaf) room) (seat-itself path)
      ∙ then-told (moves system false (path_behind path []) time got (sim.Leaf leaf) room)
      ∙ ap (λ (names : List Name). moves system false (record { names = names }) time got (sim.Leaf leaf) room) (append-nil path.names)
      ∙ leaf-moves-leaf system path time got leaf room)
  of-leaf-by leaf path time got room false is =
      ap (λ (kind : Option MoveKind). let step : Told Leaf = elim kind [ Some kind ↦ take_move system leaf kind path time got | None ↦ told [] leaf ] in step then as_leaf room)
      (not-called (is_due leaf time) (has_come got) is)

  of-leaf : (leaf : Leaf) → MovesByMovers (sim.Leaf leaf)
  of-leaf leaf path time got sent room placed is =
      let own : Delivery = record { path = path; model = leaf.model; ports = got } in
      let found : is_mover (sim.Leaf leaf) path time own ≡ (is_due leaf time || has_come got) =
      ap (λ (seat : Seat). is_called time got (leaf_at seat (sim.Leaf leaf))) (seat-itself path)
      ∙ ap (λ opened. is_called time got (leaf_in false opened)) (out-Leaf leaf) in
      move-Leaf system leaf path time got room
      ∙ of-leaf-by leaf path time got room (is_mover (sim.Leaf leaf) path time own) (sym found)
      ∙ ap (λ (list : List Delivery). move_each system path time (filter (is_mover (sim.Leaf leaf) path time) list) (sim.Leaf leaf) room) (sym (deliveries-Leaf system leaf path time got))

  module _ (model : ModelId) (args : List Value) (boss : Leaf) (links : List Link) (path : Path) (time : ℕ) (sources : Sources) where
    -- what comes to a component, and its movers
    abbrev got_by : Kid → Ports
    got_by kid = gathered system.translate links sources (part.Kid (name_of kid)) (ins_of system (out-Kid kid).sim)

    abbrev movers_of : Kid → List Delivery
    movers_of kid = movers system (out-Kid kid).sim (below path (name_of kid)) time (got_by kid)

    abbrev sent_to : Kid → List Delivery
    sent_to kid = deliveries system (out-Kid kid).sim (below path (name_of kid)) time (got_by kid)

    abbrev NotExec : Kid → Type 0
    NotExec kid = is_same_name EXEC (name_of kid) ≡ false

    abbrev Answers : Kid → Type 0
    Answers kid = (ports : Ports) × (output system (out-Kid kid).sim (below path (name_of kid)) time ≡ Ok ports)

    abbrev finished : List Kid × ℕ → Told (Sim × ℕ)
    finished after = told [] (whole model args boss after.0 links, after.1)

    behind-own : (kid : Kid) → AreBehind (below path (name_of kid)) (sent_to kid)
    behind-own kid = subst (λ (list : List Delivery). AreBehind (below path (name_of kid)) list) (deliveries-kid system kid path time links sources) (behind-kid system kid path time links sources)

    behind-movers : (kid : Kid) → AreBehind (below path (name_of kid)) (movers_of kid)
    behind-movers kid = each-filter (λ (own : Delivery). IsBehind (below path (name_of kid)) own.path) (is_mover (out-Kid kid).sim (below path (name_of kid)) time) (sent_to kid) (behind-own kid)

    -- the movers of a component, in its network
    kid-moves : (kid : Kid) → MovesByMovers (out-Kid kid).sim → IsPlaced (out-Kid kid).sim → Answers kid → NotExec kid → (done kids : List Kid) → NoneNamed (name_of kid) done → (room : ℕ) →
        move_each system path time (movers_of kid) (whole model args boss (done ++ kid ∷ kids) links) room
        ≡ (move system (out-Kid kid).sim (below path (name_of kid)) time (got_by kid) room then with_room (net_with model args boss links done kids (name_of kid)))
    kid-moves kid by placed answers not_exec done kids none room =
        ap (λ (k : Kid). move_each system path time (movers_of kid) (whole model args boss (done ++ k ∷ kids) links) room) (sym (same-kid kid))
        ∙ each-within model args boss links done kids (name_of kid) none path time not_exec (movers_of kid) (behind-movers kid) (out-Kid kid).sim room
        ∙ ap (λ (step : Told (Sim × ℕ)). step then with_room (net_with model args boss links done kids (name_of kid))) (sym (by (below path (name_of kid)) time (got_by kid) answers.0 room placed answers.1))

    kids-move : (kids : List Kid) → AllByRecursion (λ kid. MovesByMovers (out-Kid kid).sim) kids → AllByRecursion (λ kid. IsPlaced (out-Kid kid).sim) kids → AllByRecursion Answers kids → AllByRecursion NotExec kids →
        (done : List Kid) → IsDistinct is_same_name (map name_of (done ++ kids)) → (room : ℕ) →
        move_each system path time (flat_map movers_of kids) (whole model args boss (done ++ kids) links) room
        ≡ (moved (map (kid_move system) kids) path time links sources room done then finished)
    kids-move [] by placed answers not_exec done distinct room = λ i. told [] (whole model args boss (append-nil done i) links, room)
    kids-move (kid ∷ kids) by placed answers not_exec done distinct room =
        let within = net_with model args boss links done kids (name_of kid) in
        let first = move system (out-Kid kid).sim (below path (name_of kid)) time (got_by kid) room in
        let rest : Sim × ℕ → Told (Sim × ℕ) = λ after. move_each system path time (flat_map movers_of kids) after.0 after.1 in
        let named_kid : Sim × ℕ → Told (Kid × ℕ) = λ after. told [] (kid_of (name_of kid) after.0, after.1) in
        let others : Kid × ℕ → Told (List Kid × ℕ) = λ one. moved (map (kid_move system) kids) path time links sources one.1 (done ++ one.0 ∷ []) in
        each-append path time (movers_of kid) (flat_map movers_of kids) (whole model args boss (done ++ kid ∷ kids) links) room
        ∙ ap (λ (step : Told (Sim × ℕ)). step then rest) (kid-moves kid by.0 placed.0 answers.0 not_exec.0 done kids (none-before is_same_name done kid kids distinct) room)
        ∙ then-assoc first (with_room within) rest
        ∙ then-same first _ _ (λ after.
        ap (λ (all : List Kid). move_each system path time (flat_map movers_of kids) (whole model args boss all links) after.1) (sym (append_assoc done (kid_of (name_of kid) after.0 ∷ []) kids))
        ∙ kids-move kids by.1 placed.1 answers.1 not_exec.1 (done ++ kid_of (name_of kid) after.0 ∷ []) (subst (IsDistinct is_same_name) (names-stay done kid kids after.0) distinct) after.1)
        ∙ sym (then-assoc first (λ after. named_kid after then others) finished)
        ∙ ap (λ (step : Told (List Kid × ℕ)). step then finished) (sym (then-assoc first named_kid others))
        ∙ ap (λ (step : Told (Kid × ℕ)). (step then others) then finished) (sym (kid_move-opens system kid path time links sources room))

    -- to whom a component's deliveries go is a mover of the network where it is one of the component
    kid-movers : (kid : Kid) → NotExec kid → (done kids : List Kid) → NoneNamed (name_of kid) done →
        filter (is_mover (whole model args boss (done ++ kid ∷ kids) links) path time) (deliveries_of_kid system kid path time links sources) ≡ movers_of kid
    kid-movers kid not_exec done kids none =
        ap (λ (k : Kid). filter (is_mover (whole model args boss (done ++ k ∷ kids) links) path time) (deliveries_of_kid system kid path time links sources)) (sym (same-kid kid))
        ∙ ap (filter (is_mover (net_with model args boss links done kids (name_of kid) (out-Kid kid).sim) path time)) (deliveries-kid system kid path time links sources)
        ∙ filter-same _ _ (sent_to kid) (each-weaker (λ (own : Delivery). IsBehind (below path (name_of kid)) own.path)
        (λ own. is_mover (net_with model args boss links done kids (name_of kid) (out-Kid kid).sim) path time own ≡ is_mover (out-Kid kid).sim (below path (name_of kid)) time own)
        (λ own behind. is_mover-within (same_name total) model args boss links done kids (name_of kid) none system path time not_exec own behind (out-Kid kid).sim)
        (sent_to kid) (behind-own kid))

    kids-movers : (tree : Sim) (kids : List Kid) → AllByRecursion NotExec kids → (done : List Kid) → IsDistinct is_same_name (map name_of (done ++ kids)) → tree ≡ whole model args boss (done ++ kids) links →
        filter (is_mover tree path time) (flat_map (λ (kid : KidReceives). kid path time links sources) (map (deliveries_of_kid system) kids)) ≡ flat_map movers_of kids
    kids-movers tree [] not_exec done distinct is = refl
    kids-movers tree (kid ∷ kids) not_exec done distinct is =
        let again = append_assoc done (kid ∷ []) kids in
        filter-append (is_mover tree path time) (deliveries_of_kid system kid path time links sources) _
        ∙ (λ i. (ap (λ (t : Sim). filter (is_mover t path time) (deliveries_of_kid system kid path time links sources)) is
        ∙ kid-movers kid not_exec.0 done kids (none-before is_same_name done kid kids distinct)) i
        ++ kids-movers tree kids not_exec.1 (done ++ kid ∷ []) (subst (λ (all : List Kid). IsDistinct is_same_name (map name_of all)) (sym again) distinct)
        (is ∙ ap (λ (all : List Kid). whole model args boss all links) (sym again)) i)

    -- what comes to the executive
    abbrev boss_got : Ports
    boss_got = gathered system.translate links sources part.Boss (component_of system boss).ins

    abbrev boss_delivery : Delivery
    boss_delivery = record { path = to_boss path; model = boss.model; ports = boss_got }

    abbrev exec_seat : Seat
    exec_seat = record { names = []; is_boss = true }

    boss-seat : seat_behind path (to_boss path) ≡ exec_seat
    boss-seat = ap seat_of (drop-front path.names (EXEC ∷ []))
        ∙ ap (λ (here : Bool). let seat : Seat = if here then record { names = []; is_boss = true } else record { names = EXEC ∷ []; is_boss = false } in seat) (same_name total EXEC)

    boss-called : (kids : List Kid) → is_mover (whole model args boss kids links) path time boss_delivery ≡ (is_due boss time || has_come boss_got)
    boss-called kids =
        ap (λ (seat : Seat). is_called time boss_got (leaf_at seat (whole model args boss kids links))) boss-seat
        ∙ ap (is_called time boss_got) (boss-at-whole model args boss kids links)

    boss-last : (kids : List Kid) (room : ℕ) (called : Bool) → (is_due boss time || has_come boss_got) ≡ called →
        move_each system path time (cond called (boss_delivery ∷ []) []) (whole model args boss kids links) room ≡ (boss_moves system model args boss links kids path time boss_got room then as_net)
    boss-last kids room true is =
        let tree = whole model args boss kids links in
        each-one path time boss_delivery tree room
        ∙ ap (λ (seat : Seat). move_at system path time seat boss_got tree room) boss-seat
        ∙ then-told (moves system true (path_behind path []) time boss_got tree room)
        ∙ ap (λ (names : List Name). moves system true (record { names = names }) time boss_got tree room) (append-nil path.names)
        ∙ boss-moves-whole system path time boss_got model args boss kids links room
    boss-last kids room false is =
        sym (ap (λ (kind : Option MoveKind). let step : Told (Net × ℕ) = elim kind [
          | Some kind ↦ take_move system boss kind (to_boss path) time boss_got then after_boss system model args kids path time room
          | None ↦ told [] (net_of model args boss kids links, room)
        ] in step then as_net) (not-called (is_due boss time) (has_come boss_got) is))

    -- a network that knows what its links carry from
    sources-move : (kids : List Kid) → AllByRecursion (λ kid. MovesByMovers (out-Kid kid).sim) kids → AllByRecursion (λ kid. IsPlaced (out-Kid kid).sim) kids → AllByRecursion Answers kids → AllByRecursion NotExec kids →
        IsDistinct is_same_name (map name_of kids) → (room : ℕ) →
        (with_sources system model args boss (map (kid_move system) kids) links path time room sources then as_net)
        ≡ move_each system path time (filter (is_mover (whole model args boss kids links) path time) (shared system boss (map (deliveries_of_kid system) kids) links path time sources)) (whole model args boss kids links) room
    sources-move kids by placed answers not_exec distinct room =
        let tree = whole model args boss kids links in
        let in_kids = moved (map (kid_move system) kids) path time links sources room [] in
        let last_one = filter (is_mover tree path time) (boss_delivery ∷ []) in
        let last : Sim × ℕ → Told (Sim × ℕ) = λ after. move_each system path time last_one after.0 after.1 in
        then-assoc in_kids (after_kids system model args boss links path time sources) as_net
        ∙ then-same in_kids _ _ (λ after.
        sym (boss-last after.0 after.1 (is_mover tree path time boss_delivery) (sym (boss-called kids))))
        ∙ sym (then-assoc in_kids finished last)
        ∙ ap (λ (step : Told (Sim × ℕ)). step then last) (sym (kids-move kids by placed answers not_exec [] distinct room))
        ∙ sym (each-append path time (flat_map movers_of kids) last_one tree room)
        ∙ ap (λ (list : List Delivery). move_each system path time (list ++ last_one) tree room) (sym (kids-movers tree kids not_exec [] distinct refl))
        ∙ ap (λ (list : List Delivery). move_each system path time list tree room) (sym (filter-append (is_mover tree path time) _ (boss_delivery ∷ [])))

  of-net : (net : Net) → AllByRecursion (λ kid. MovesByMovers (out-Kid kid).sim) (out-Net net).kids → MovesByMovers (sim.Net net)
  of-net net by path time got sent room placed is =
      let open_net = out-Net net in
      let known = asked-again system net path time got sent is in
      let places = net-places net placed in
      let tree = whole open_net.model open_net.args open_net.boss open_net.kids open_net.links in
      let names = map name_of open_net.kids in
      let delivered : deliveries system (sim.Net net) path time got ≡ shared system open_net.boss (map (deliveries_of_kid system) open_net.kids) open_net.links path time known.0 =
      deliveries-Net system net path time got
      ∙ ap (λ (r : Result Sources TurnEnd). let list : List Delivery = elim r [ Ok sources ↦ shared system open_net.boss (map (deliveries_of_kid system) open_net.kids) open_net.links path time sources | Err end ↦ [] ] in list) known.1 in
      move-Net system net path time got room
      ∙ ap (λ (step : Told (Net × ℕ)). step then as_net) (net_move-opens system net path time got room)
      ∙ ap (λ (r : Result Sources TurnEnd). (quietly r then with_sources system open_net.model open_net.args open_net.boss (map (kid_move system) open_net.kids) open_net.links path time room) then as_net) known.1
      ∙ sources-move open_net.model open_net.args open_net.boss open_net.links path time known.0 open_net.kids by places.1 known.2
      (names-of (λ name. is_same_name EXEC name ≡ false) open_net.kids (IsDistinct-head is_same_name EXEC names places.0))
      (IsDistinct-tail is_same_name EXEC names places.0) room
      ∙ ap (λ (own : Sim). move_each system path time (filter (is_mover own path time) (shared system open_net.boss (map (deliveries_of_kid system) open_net.kids) open_net.links path time known.0)) own room) (sym (whole-of net))
      ∙ ap (λ (list : List Delivery). move_each system path time (filter (is_mover (sim.Net net) path time) list) (sim.Net net) room) (sym delivered)

  pub moves-by-movers : (tree : Sim) → MovesByMovers tree
  moves-by-movers = each_tree MovesByMovers of-leaf of-net
