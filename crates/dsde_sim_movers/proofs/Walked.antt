-- The movers of a network are those of its components, and then its executive where it moves.
use Rattle.std.proofs.Common.{◌≡◌, ℕ, ◌||◌, Bool, true, false, List, [], ◌∷◌, ◌++◌, map, length, drop, Result, Ok, Err, refl, sym, ◌∙◌, ap, subst, append_assoc, append-nil, cond}
use Rattle.std.proofs.lemmas.List.Elements.{filter-append}
use Rattle.std.proofs.lemmas.Map.Keys.{IsDistinct-head, IsDistinct-tail}
use Rattle.std.specs.Cmp.{IsTotalOrder}
use Rattle.std.specs.List.{AllByRecursion, IsDistinct, flat_map, filter}
use Rattle.std.specs.Prelude.{if◌then◌else◌}
use Rattle.dsde_sim_tree.specs.Tree.{name_of}
use Rattle.dsde_values.specs.declared.name.Name.{Name}
use Rattle.dsde_values.specs.declared.path.Path.{Path}
use Rattle.dsde_values.specs.declared.value.Value.{Value}
use Rattle.dsde_values.specs.Path.{name_cmp, EXEC}
use Rattle.dsde_sim_tree.specs.given.language.ids_ModelId.{ModelId}
use Rattle.dsde_sim_tree.specs.given.formalism.leaf_Leaf.{Leaf}
use Rattle.dsde_sim_tree.specs.given.formalism.Leaf.{is_due, has_come, component_of}
use Rattle.dsde_sim_tree.specs.given.formalism.System.{System, Ports}
use Rattle.dsde_sim_tree.specs.given.structure.plan_Link.{Link}
use Rattle.dsde_sim_tree.specs.given.structure.plan_Part_TheVariants as part
use Rattle.dsde_sim_tree.specs.given.structure.sources_Sources.{Sources}
use Rattle.dsde_sim_tree.specs.given.structure.Gather.{gathered, is_same_name}
use Rattle.dsde_sim_tree.specs.declared.fault.TurnEnd.{TurnEnd}
use Rattle.dsde_sim_tree.specs.Told.{below, to_boss}
use Rattle.dsde_sim_tree.specs.declared.sim.Kid.{Kid}
use Rattle.dsde_sim_tree.specs.declared.sim.Net.{Net}
use Rattle.dsde_sim_tree.specs.declared.sim.Sim.{Sim}
use Rattle.dsde_sim_tree.specs.declared.sim.Sim.TheVariants as sim
use Rattle.dsde_sim_tree.specs.declared.sim.Sim.TheViews.{out-Kid, out-Net}
use Rattle.dsde_sim_tree.specs.Move.{ins_of}
use Rattle.dsde_sim_tree.specs.Output.{kid_output, sources_of}
use Rattle.dsde_sim_movers.specs.Deliveries.{Delivery, KidReceives, shared, deliveries, deliveries_of_kid}
use Rattle.dsde_sim_movers.specs.lemmas.Events.{each-weaker}
use Rattle.dsde_sim_movers.specs.lemmas.Opens.{deliveries-Leaf, deliveries-Net, deliveries-kid}
use Rattle.dsde_sim_movers.specs.Movers.{Seat, seat_of, leaf_in, leaf_at, seat_behind, is_called, is_mover, movers}
use Rattle.dsde_sim_movers.specs.lemmas.Seats.{out-Leaf, whole, whole-of, same-kid, NoneNamed, boss-at-whole, drop-front, IsBehind, net_with, is_mover-within}
use Rattle.dsde_sim_movers.specs.lemmas.Beneath.{AreBehind, behind-kid}
use Rattle.dsde_sim_movers.specs.lemmas.Named.{same_name, IsPlaced, names-of, net-places}
use Rattle.dsde_sim_movers.specs.Walk.{called_one, kid_movers, net_movers}

filter-same : {X : Type 0} (test other : X → Bool) (xs : List X) → AllByRecursion (λ x. test x ≡ other x) xs → filter test xs ≡ filter other xs
filter-same test other [] same = refl
filter-same test other (x ∷ xs) same = λ i. cond (same.0 i) (x ∷ filter-same test other xs same.1 i) (filter-same test other xs same.1 i)

seat-itself : (path : Path) → seat_behind path path ≡ record { names = []; is_boss = false }
seat-itself path = ap (λ (names : List Name). seat_of (drop (length path.names) names)) (sym (append-nil path.names)) ∙ ap seat_of (drop-front path.names [])

module _ (e : Name → Name → Bool) where
  at-name : (P : Name → Type 0) (done : List Kid) (kid : Kid) (kids : List Kid) → AllByRecursion P (map name_of (done ++ kid ∷ kids)) → P (name_of kid)
  at-name P [] kid kids all = all.0
  at-name P (other ∷ done) kid kids all = at-name P done kid kids all.1

  none-before : (done : List Kid) (kid : Kid) (kids : List Kid) → IsDistinct e (map name_of (done ++ kid ∷ kids)) → AllByRecursion (λ own. e (name_of own) (name_of kid) ≡ false) done
  none-before [] kid kids distinct = tt
  none-before (own ∷ done) kid kids distinct =
      let names = map name_of (done ++ kid ∷ kids) in (
        at-name (λ name. e (name_of own) name ≡ false) done kid kids (IsDistinct-head e (name_of own) names distinct),
        none-before done kid kids (IsDistinct-tail e (name_of own) names distinct),
      )

module _ (total : IsTotalOrder name_cmp) (system : System) where
  pub walked-leaf : (leaf : Leaf) (path : Path) (time : ℕ) (got : Ports) → movers system (sim.Leaf leaf) path time got ≡ called_one leaf path time got
  walked-leaf leaf path time got =
      let own : Delivery = record { path = path; model = leaf.model; ports = got } in
      let found : is_mover (sim.Leaf leaf) path time own ≡ (is_due leaf time || has_come got) =
      ap (λ (seat : Seat). is_called time got (leaf_at seat (sim.Leaf leaf))) (seat-itself path)
      ∙ ap (λ opened. is_called time got (leaf_in false opened)) (out-Leaf leaf) in
      ap (filter (is_mover (sim.Leaf leaf) path time)) (deliveries-Leaf system leaf path time got)
      ∙ ap (λ (here : Bool). cond here (own ∷ []) []) found

  module _ (model : ModelId) (args : List Value) (boss : Leaf) (links : List Link) (path : Path) (time : ℕ) (sources : Sources) where
    abbrev movers_of : Kid → List Delivery
    movers_of = kid_movers system links sources path time

    abbrev sent_to : Kid → List Delivery
    sent_to kid = deliveries system (out-Kid kid).sim (below path (name_of kid)) time (gathered system.translate links sources (part.Kid (name_of kid)) (ins_of system (out-Kid kid).sim))

    abbrev NotExec : Kid → Type 0
    NotExec kid = is_same_name EXEC (name_of kid) ≡ false

    behind-own : (kid : Kid) → AreBehind (below path (name_of kid)) (sent_to kid)
    behind-own kid = subst (λ (list : List Delivery). AreBehind (below path (name_of kid)) list) (deliveries-kid system kid path time links sources) (behind-kid system kid path time links sources)

    kid-movers : (kid : Kid) → NotExec kid → (done kids : List Kid) → NoneNamed (name_of kid) done →
        filter (is_mover (whole model args boss (done ++ kid ∷ kids) links) path time) (deliveries_of_kid system kid path time links sources) ≡ movers_of kid
    kid-movers kid not_exec done kids none =
        ap (λ (k : Kid). filter (is_mover (whole model args boss (done ++ k ∷ kids) links) path time) (deliveries_of_kid system kid path time links sources)) (sym (same-kid kid))
        ∙ ap (filter (is_mover (net_with model args boss links done kids (name_of kid) (out-Kid kid).sim) path time)) (deliveries-kid system kid path time links sources)
        ∙ filter-same _ _ (sent_to kid) (each-weaker (λ (own : Delivery). IsBehind (below path (name_of kid)) own.path)
        (λ own. is_mover (net_with model args boss links done kids (name_of kid) (out-Kid kid).sim) path time own ≡ is_mover (out-Kid kid).sim (below path (name_of kid)) time own)
        (λ own behind. is_mover-within (same_name total) model args boss links done kids (name_of kid) none system path time not_exec own behind (out-Kid kid).sim)
        (sent_to kid) (behind-own kid))

    kids-movers : (tree : Sim) (kids : List Kid) → AllByRecursion NotExec kids → (done : List Kid) → IsDistinct is_same_name (map name_of (done ++ kids)) → tree ≡ whole model args boss (done ++ kids) links →
        filter (is_mover tree path time) (flat_map (λ (kid : KidReceives). kid path time links sources) (map (deliveries_of_kid system) kids)) ≡ flat_map movers_of kids
    kids-movers tree [] not_exec done distinct is = refl
    kids-movers tree (kid ∷ kids) not_exec done distinct is =
        let again = append_assoc done (kid ∷ []) kids in
        filter-append (is_mover tree path time) (deliveries_of_kid system kid path time links sources) _
        ∙ (λ i. (ap (λ (t : Sim). filter (is_mover t path time) (deliveries_of_kid system kid path time links sources)) is
        ∙ kid-movers kid not_exec.0 done kids (none-before is_same_name done kid kids distinct)) i
        ++ kids-movers tree kids not_exec.1 (done ++ kid ∷ []) (subst (λ (all : List Kid). IsDistinct is_same_name (map name_of all)) (sym again) distinct)
        (is ∙ ap (λ (all : List Kid). whole model args boss all links) (sym again)) i)

    abbrev boss_got : Ports
    boss_got = gathered system.translate links sources part.Boss (component_of system boss).ins

    abbrev boss_delivery : Delivery
    boss_delivery = record { path = to_boss path; model = boss.model; ports = boss_got }

    boss-called : (kids : List Kid) → is_mover (whole model args boss kids links) path time boss_delivery ≡ (is_due boss time || has_come boss_got)
    boss-called kids =
        ap (λ (seat : Seat). is_called time boss_got (leaf_at seat (whole model args boss kids links)))
        (ap seat_of (drop-front path.names (EXEC ∷ []))
        ∙ ap (λ (here : Bool). let seat : Seat = if here then record { names = []; is_boss = true } else record { names = EXEC ∷ []; is_boss = false } in seat) (same_name total EXEC))
        ∙ ap (is_called time boss_got) (boss-at-whole model args boss kids links)

    walked-shared : (kids : List Kid) → AllByRecursion NotExec kids → IsDistinct is_same_name (map name_of kids) →
        filter (is_mover (whole model args boss kids links) path time) (shared system boss (map (deliveries_of_kid system) kids) links path time sources) ≡ flat_map movers_of kids ++ called_one boss (to_boss path) time boss_got
    walked-shared kids not_exec distinct =
        let tree = whole model args boss kids links in
        filter-append (is_mover tree path time) (flat_map (λ (kid : KidReceives). kid path time links sources) (map (deliveries_of_kid system) kids)) (boss_delivery ∷ [])
        ∙ (λ i. kids-movers tree kids not_exec [] distinct refl i ++ cond (boss-called kids i) (boss_delivery ∷ []) [])

  pub walked-net : (net : Net) (path : Path) (time : ℕ) (got : Ports) (sources : Sources) → IsPlaced (sim.Net net) →
      sources_of system (map (kid_output system) (out-Net net).kids) (out-Net net).boss path time got ≡ Ok sources → movers system (sim.Net net) path time got ≡ net_movers system net path time sources
  walked-net net path time got sources placed is =
      let own = out-Net net in
      let places = net-places net placed in
      let names = map name_of own.kids in
      ap (filter (is_mover (sim.Net net) path time)) (deliveries-Net system net path time got
      ∙ ap (λ (r : Result Sources TurnEnd). let list : List Delivery = elim r [ Ok sources ↦ shared system own.boss (map (deliveries_of_kid system) own.kids) own.links path time sources | Err end ↦ [] ] in list) is)
      ∙ ap (λ (tree : Sim). filter (is_mover tree path time) (shared system own.boss (map (deliveries_of_kid system) own.kids) own.links path time sources)) (whole-of net)
      ∙ walked-shared own.model own.args own.boss own.links path time sources own.kids (names-of (λ name. is_same_name EXEC name ≡ false) own.kids (IsDistinct-head is_same_name EXEC names places.0))
      (IsDistinct-tail is_same_name EXEC names places.0)
