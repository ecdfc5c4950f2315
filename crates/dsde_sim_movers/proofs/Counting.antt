-- At most every second part of a tree is an executive.
use Rattle.std.proofs.Common.{◌≡◌, ℕ, ◌+◌, ◌*◌, ◌≤◌, Bool, true, false, length, List, [], ◌∷◌, ◌++◌, map, Result, Ok, Err, refl, sym, ◌∙◌, ap, subst, arith, length-append, cond, filter}
use Rattle.std.proofs.lemmas.List.Elements.{filter-append}
use Rattle.std.proofs.lemmas.List.Sums.{sum_by-cons}
use Rattle.std.proofs.lemmas.Map.Keys.{IsDistinct-head}
use Rattle.std.specs.List.{AllByRecursion, flat_map}
use Rattle.dsde_values.specs.declared.path.Path.{Path}
use Rattle.dsde_sim_tree.specs.given.formalism.leaf_Leaf.{Leaf}
use Rattle.dsde_sim_tree.specs.given.formalism.Leaf.{component_of}
use Rattle.dsde_sim_tree.specs.given.formalism.System.{System, Ports}
use Rattle.dsde_sim_tree.specs.given.structure.plan_Link.{Link}
use Rattle.dsde_sim_tree.specs.given.structure.plan_Part_TheVariants as part
use Rattle.dsde_sim_tree.specs.given.structure.sources_Sources.{Sources}
use Rattle.dsde_sim_tree.specs.given.structure.Gather.{gathered, is_same_name}
use Rattle.dsde_sim_tree.specs.declared.fault.TurnEnd.{TurnEnd}
use Rattle.dsde_values.specs.Path.{EXEC}
use Rattle.dsde_sim_tree.specs.Told.{below, to_boss}
use Rattle.dsde_sim_tree.specs.declared.sim.Kid.{Kid}
use Rattle.dsde_sim_tree.specs.declared.sim.Net.{Net}
use Rattle.dsde_sim_tree.specs.declared.sim.Sim.{Sim}
use Rattle.dsde_sim_tree.specs.declared.sim.Sim.TheVariants as sim
use Rattle.dsde_sim_tree.specs.declared.sim.Sim.TheViews.{out-Kid, out-Net}
use Rattle.dsde_sim_tree.specs.Move.{ins_of}
use Rattle.dsde_sim_tree.specs.Output.{sources_of, kid_output}
use Rattle.dsde_sim_tree.specs.Tree.{parts, parts_of_kid, parts_of_kids, name_of}
use Rattle.dsde_sim_tree.specs.lemmas.Trees.{each_tree}
use Rattle.dsde_sim_movers.specs.Deliveries.{Delivery, KidReceives, shared, deliveries, deliveries_of_kid}
use Rattle.dsde_sim_movers.specs.lemmas.Opens.{deliveries-Leaf, deliveries-Net, deliveries-kid}
use Rattle.dsde_sim_movers.specs.Movers.{Seat, seat_behind, is_mover, movers}
use Rattle.dsde_sim_movers.specs.lemmas.Seats.{IsBehind, seat-in-net}
use Rattle.dsde_sim_movers.specs.lemmas.Beneath.{behind-kid}
use Rattle.dsde_sim_movers.proofs.MoverMoving.{filter-same, seat-itself}
use Rattle.dsde_sim_movers.specs.lemmas.Named.{IsPlaced, names-of, net-places}
use Rattle.dsde_sim_movers.proofs.Measuring.{parts-Net, parts-kid}
use Rattle.dsde_sim_movers.specs.lemmas.Events.{each-weaker}

-- deliveries to executives
abbrev pub to_bosses : Path → List Delivery → List Delivery
to_bosses path list = filter (λ own. (seat_behind path own.path).is_boss) list

one-filter : {X : Type 0} (test : X → Bool) (x : X) (here : Bool) → length (cond here (x ∷ []) []) ≤ 1
one-filter test x true = omega arith
one-filter test x false = omega arith

fewer-by : {X : Type 0} (test : X → Bool) (x : X) (some all : List X) (here kept : Bool) → test x ≡ here → length (filter test some) ≤ length (filter test all) →
    length (filter test (cond kept (x ∷ some) some)) ≤ length (cond here (x ∷ filter test all) (filter test all))
fewer-by test x some all true true is less = subst (λ (b : Bool). length (cond b (x ∷ filter test some) (filter test some)) ≤ length (x ∷ filter test all)) (sym is) (omega (arith, less))
fewer-by test x some all false true is less = subst (λ (b : Bool). length (cond b (x ∷ filter test some) (filter test some)) ≤ length (filter test all)) (sym is) less
fewer-by test x some all true false is less = omega (arith, less)
fewer-by test x some all false false is less = less

fewer : {X : Type 0} (test keep : X → Bool) (xs : List X) → length (filter test (filter keep xs)) ≤ length (filter test xs)
fewer test keep [] = omega arith
fewer test keep (x ∷ xs) = fewer-by test x (filter keep xs) xs (test x) (keep x) refl (fewer test keep xs)

module _ (system : System) where
  abbrev Halves : Sim → Type 0
  Halves tree = (path : Path) (time : ℕ) (got : Ports) → IsPlaced tree → 2 * length (to_bosses path (deliveries system tree path time got)) ≤ parts tree

  halves-leaf : (leaf : Leaf) → Halves (sim.Leaf leaf)
  halves-leaf leaf path time got placed =
      let none : length (to_bosses path (deliveries system (sim.Leaf leaf) path time got)) ≡ 0 =
      ap (λ (list : List Delivery). length (to_bosses path list)) (deliveries-Leaf system leaf path time got)
      ∙ ap (λ (seat : Seat). length {A = Delivery} (cond seat.is_boss (record { path = path; model = leaf.model; ports = got } ∷ []) [])) (seat-itself path) in
      omega (arith, none)

  module _ (path : Path) (time : ℕ) (links : List Link) (sources : Sources) where
    halves-kid : (kid : Kid) → Halves (out-Kid kid).sim → IsPlaced (out-Kid kid).sim → is_same_name EXEC (name_of kid) ≡ false → 2 * length (to_bosses path (deliveries_of_kid system kid path time links sources)) ≤ parts_of_kid kid
    halves-kid kid halves placed not_exec =
        let place = below path (name_of kid) in
        let list = deliveries_of_kid system kid path time links sources in
        let got = gathered system.translate links sources (part.Kid (name_of kid)) (ins_of system (out-Kid kid).sim) in
        let same : to_bosses path list ≡ to_bosses place list =
        filter-same (λ own. (seat_behind path own.path).is_boss) (λ own. (seat_behind place own.path).is_boss) list
        (each-weaker (λ (own : Delivery). IsBehind place own.path) (λ own. (seat_behind path own.path).is_boss ≡ (seat_behind place own.path).is_boss)
        (λ own behind. ap (λ (seat : Seat). seat.is_boss) (seat-in-net (name_of kid) path own.path not_exec behind)) list (behind-kid system kid path time links sources)) in
        let count : length (to_bosses path list) ≡ length (to_bosses place (deliveries system (out-Kid kid).sim place time got)) =
        ap length same ∙ ap (λ (own : List Delivery). length (to_bosses place own)) (deliveries-kid system kid path time links sources) in
        let own = halves place time got placed in
        let counted = parts-kid kid in
        omega (arith, count, own, counted)

    halves-kids : (kids : List Kid) → AllByRecursion (λ kid. Halves (out-Kid kid).sim) kids → AllByRecursion (λ kid. IsPlaced (out-Kid kid).sim) kids → AllByRecursion (λ kid. is_same_name EXEC (name_of kid) ≡ false) kids →
        2 * length (to_bosses path (flat_map (λ (kid : KidReceives). kid path time links sources) (map (deliveries_of_kid system) kids))) ≤ parts_of_kids kids
    halves-kids [] halves placed not_exec = omega arith
    halves-kids (kid ∷ kids) halves placed not_exec =
        let own_list = deliveries_of_kid system kid path time links sources in
        let rest_list = flat_map (λ (kid : KidReceives). kid path time links sources) (map (deliveries_of_kid system) kids) in
        let split : length (to_bosses path (own_list ++ rest_list)) ≡ length (to_bosses path own_list) + length (to_bosses path rest_list) =
        ap length (filter-append (λ own. (seat_behind path own.path).is_boss) own_list rest_list) ∙ length-append (to_bosses path own_list) (to_bosses path rest_list) in
        let one = halves-kid kid halves.0 placed.0 not_exec.0 in
        let rest = halves-kids kids halves.1 placed.1 not_exec.1 in
        let counted : parts_of_kids (kid ∷ kids) ≡ parts_of_kid kid + parts_of_kids kids = sum_by-cons (λ x. x) (parts_of_kid kid) (map parts_of_kid kids) in
        omega (arith, split, one, rest, counted)

  halves-sources : (net : Net) → AllByRecursion (λ kid. Halves (out-Kid kid).sim) (out-Net net).kids → IsPlaced (sim.Net net) → (path : Path) (time : ℕ) (found : Result Sources TurnEnd) →
      (let list : List Delivery = elim found [
        | Ok sources ↦ shared system (out-Net net).boss (map (deliveries_of_kid system) (out-Net net).kids) (out-Net net).links path time sources
        | Err end ↦ []
      ] in 2 * length (to_bosses path list) ≤ parts (sim.Net net))
  halves-sources net halves placed path time (Ok sources) =
      let own = out-Net net in
      let places = net-places net placed in
      let kids_list = flat_map (λ (kid : KidReceives). kid path time own.links sources) (map (deliveries_of_kid system) own.kids) in
      let boss : Delivery = record { path = to_boss path; model = own.boss.model; ports = gathered system.translate own.links sources part.Boss (component_of system own.boss).ins } in
      let split : length (to_bosses path (kids_list ++ boss ∷ [])) ≡ length (to_bosses path kids_list) + length (to_bosses path (boss ∷ [])) =
      ap length (filter-append (λ own. (seat_behind path own.path).is_boss) kids_list (boss ∷ [])) ∙ length-append (to_bosses path kids_list) (to_bosses path (boss ∷ [])) in
      let last : length (to_bosses path (boss ∷ [])) ≤ 1 = one-filter (λ own. (seat_behind path own.path).is_boss) boss (seat_behind path boss.path).is_boss in
      let kids = halves-kids path time own.links sources own.kids halves places.1 (names-of (λ name. is_same_name EXEC name ≡ false) own.kids (IsDistinct-head is_same_name EXEC (map name_of own.kids) places.0)) in
      let counted = parts-Net net in
      omega (arith, split, last, kids, counted)
  halves-sources net halves placed path time (Err end) = omega arith

  halves-net : (net : Net) → AllByRecursion (λ kid. Halves (out-Kid kid).sim) (out-Net net).kids → Halves (sim.Net net)
  halves-net net halves path time got placed =
      subst (λ (list : List Delivery). 2 * length (to_bosses path list) ≤ parts (sim.Net net)) (sym (deliveries-Net system net path time got))
      (halves-sources net halves placed path time (sources_of system (map (kid_output system) (out-Net net).kids) (out-Net net).boss path time got))

  halves : (tree : Sim) → Halves tree
  halves = each_tree Halves halves-leaf halves-net

  -- of those who move
  pub movers-halves : (tree : Sim) (path : Path) (time : ℕ) (got : Ports) → IsPlaced tree → 2 * length (to_bosses path (movers system tree path time got)) ≤ parts tree
  movers-halves tree path time got placed =
      let all = halves tree path time got placed in
      let less = fewer (λ own. (seat_behind path own.path).is_boss) (is_mover tree path time) (deliveries system tree path time got) in
      omega (arith, all, less)
