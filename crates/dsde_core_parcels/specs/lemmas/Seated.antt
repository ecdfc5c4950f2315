-- Who lies at a place that is no network's has its seat in the tree that handles show.
use Rattle.std.proofs.Common.{◌≡◌, Bool, true, false, List, [], ◌∷◌, ◌++◌, length, drop, map, Option, Some, None, refl, sym, ap, subst, ◌∙◌, append_assoc, append-nil}
use Rattle.std.specs.List.{AllByRecursion, IsDistinct, flat_map}
use Rattle.std.specs.Prelude.{if◌then◌else◌}
use Rattle.std.proofs.lemmas.Map.Keys.{IsDistinct-head, IsDistinct-tail}
use Rattle.dsde_bank.specs.declared.handle.Handle.{Handle}
use Rattle.dsde_values.specs.declared.name.Name.{Name}
use Rattle.dsde_values.specs.declared.path.Path.{Path}
use Rattle.dsde_values.specs.declared.value.Value.{Value}
use Rattle.dsde_values.specs.Path.{EXEC}
use Rattle.dsde_language.specs.declared.ids.ModelId.{ModelId}
use Rattle.dsde_sim_tree.specs.given.formalism.leaf_Leaf.{Leaf}
use Rattle.dsde_routes_wiring.specs.given.structure.plan_Link.{Link}
use Rattle.dsde_routes_wiring.specs.given.structure.Gather.{is_same_name}
use Rattle.dsde_sim_tree.specs.Told.{below, to_boss}
use Rattle.dsde_sim_tree.specs.declared.sim.Kid.{Kid}
use Rattle.dsde_sim_tree.specs.declared.sim.Net.{Net}
use Rattle.dsde_sim_tree.specs.declared.sim.Sim.{Sim}
use Rattle.dsde_sim_tree.specs.declared.sim.Sim.TheVariants as sim
use Rattle.dsde_sim_tree.specs.declared.sim.Sim.TheOpen.{Net-F}
use Rattle.dsde_sim_tree.specs.declared.sim.Sim.TheViews.{out-Kid}
use Rattle.dsde_sim_tree.specs.Start.{net_of}
use Rattle.dsde_sim_tree.specs.Tree.{name_of}
use Rattle.dsde_routes_pushing.specs.given.sim_movers.Movers as seats
use Rattle.dsde_routes_pushing.specs.given.sim_movers.Movers.{leaf_at, seat_behind, seat_of, Seat}
use Rattle.dsde_routes_pushing.specs.given.sim_movers.lemmas_Named.{net-places, names-of, IsPlaced}
use Rattle.dsde_routes_pushing.specs.given.sim_movers.lemmas_Seats.{boss-at-whole, drop-front, leaf-within, net_with, out-Leaf, same-kid, seat-in-net, whole, NoneNamed}
use Rattle.dsde_routes_pushing.specs.given.sim_movers.lemmas_Spotting.{opened}
use Rattle.dsde_routes_wiring.specs.declared.wiring.Wiring.{Wiring}
use Rattle.dsde_routes_wiring.specs.declared.wiring.WiredKid.{WiredKid}
use Rattle.dsde_routes_wiring.specs.declared.wiring.WiredKid.TheViews.{out-Wiring, out-WiredKid}
use Rattle.dsde_routes_wiring.specs.Opened.{Beneath, each_wiring}
use Rattle.dsde_core_moves.specs.given.core_flat.Places.{Place, place, kid_places, net_places, part_places}
use Rattle.dsde_core_moves.specs.given.core_flat.Shown.{Look, args_in, kid_under, leaf_in, model_in, net_under, part_under}
use Rattle.dsde_core_moves.specs.given.core_flat.lemmas_Apart.{name-shown, sim-shown}
use Rattle.dsde_core_moves.specs.given.core_flat.lemmas_Beneath.{places-beneath, IsBeneath}
use Rattle.dsde_core_moves.specs.given.core_flat.lemmas_Frame.{all-join}
use Rattle.dsde_core_moves.specs.given.core_flat.lemmas_Names.{same-itself}
use Rattle.dsde_core_moves.specs.given.core_flat.lemmas_Opened.{kid-stands, net-shows, net-stands, OfKid}

pub each-both : {X : Type 0} (P Q R : X → Type 0) → ((x : X) → P x → Q x → R x) → (xs : List X) → AllByRecursion P xs → AllByRecursion Q xs → AllByRecursion R xs
each-both P Q R gives [] ps qs = tt
each-both P Q R gives (x ∷ xs) ps qs = (gives x ps.0 qs.0, each-both P Q R gives xs ps.1 qs.1)

-- no component before this one has its name
pick : (P : Name → Type 0) (done : List Kid) (kid : Kid) (kids : List Kid) → AllByRecursion P (map name_of (done ++ kid ∷ kids)) → P (name_of kid)
pick P [] kid kids all = all.0
pick P (own ∷ done) kid kids all = pick P done kid kids all.1

none-before : (done : List Kid) (kid : Kid) (kids : List Kid) → IsDistinct is_same_name (map name_of (done ++ kid ∷ kids)) → NoneNamed (name_of kid) done
none-before [] kid kids distinct = tt
none-before (own ∷ done) kid kids distinct = (
  pick (λ (name : Name). is_same_name (name_of own) name ≡ false) done kid kids (IsDistinct-head is_same_name (name_of own) (map name_of (done ++ kid ∷ kids)) distinct),
  none-before done kid kids (IsDistinct-tail is_same_name (name_of own) (map name_of (done ++ kid ∷ kids)) distinct),
)

seat-itself : (path : Path) → seat_behind path path ≡ record { names = []; is_boss = false }
seat-itself path = ap (λ (names : List Name). seat_of (drop (length path.names) names)) (sym (append-nil path.names)) ∙ ap seat_of (drop-front path.names [])

module _ (look : Look) where
  -- a component or an executive at a place has its seat in what stands at a path
  abbrev pub IsSeated : Path → Sim → Place → Type 0
  IsSeated path tree at = at.is_net ≡ false → leaf_at (seat_behind path at.path) tree ≡ Some (leaf_in (look at.handle))

  abbrev AreSeated : Wiring → Type 0
  AreSeated net = (handle : Handle) (path : Path) → IsPlaced (sim.Net (net_under look net handle)) → AllByRecursion (IsSeated path (sim.Net (net_under look net handle))) (net_places net path)

  part-seated : (handle : Handle) (path : Path) (own : Option Wiring) → Beneath AreSeated own → IsPlaced (part_under look handle own) → AllByRecursion (IsSeated path (part_under look handle own)) (part_places handle path own)
  part-seated handle path None known placed = (
    (λ kind. ap (λ (seat : Seat). leaf_at seat (sim.Leaf (leaf_in (look handle)))) (seat-itself path) ∙ ap (seats.leaf_in false) (out-Leaf (leaf_in (look handle)))),
    tt,
  )
  part-seated handle path (Some net) known placed = ((λ kind. absurd (let wrong : true ≡ false = kind in cc)), known handle path placed)

  module _ (model : ModelId) (args : List Value) (boss : Leaf) (links : List Link) (path : Path) where
    kid-seated : (kid : WiredKid) → OfKid AreSeated kid → IsPlaced (out-Kid (kid_under look kid)).sim → is_same_name EXEC (name_of (kid_under look kid)) ≡ false →
        (done kids : List Kid) → NoneNamed (name_of (kid_under look kid)) done → AllByRecursion (IsSeated path (whole model args boss (done ++ kid_under look kid ∷ kids) links)) (kid_places kid path)
    kid-seated kid known placed not_exec done kids none =
        let handle = (out-WiredKid kid).handle in
        let inner = (out-WiredKid kid).below in
        let shown = kid_under look kid in
        let at_path = below path (name_of shown) in
        let tree = whole model args boss (done ++ shown ∷ kids) links in
        let own : AllByRecursion (IsSeated at_path (out-Kid shown).sim) (part_places handle at_path inner) =
        subst (λ (part : Sim). AllByRecursion (IsSeated at_path part) (part_places handle at_path inner)) (sym (sim-shown look kid))
        (part-seated handle at_path inner known (subst IsPlaced (sim-shown look kid) placed)) in
        subst (AllByRecursion (IsSeated path tree)) (sym (kid-stands kid path ∙ ap (λ (name : Name). part_places handle (below path name) inner) (sym (name-shown look kid))))
        (each-both (IsSeated at_path (out-Kid shown).sim) (IsBeneath at_path.names) (IsSeated path tree)
        (λ at seated beneath kind.
        ap (λ (k : Kid). leaf_at (seat_behind path at.path) (whole model args boss (done ++ k ∷ kids) links)) (sym (same-kid shown))
        ∙ ap (λ (seat : Seat). leaf_at seat (net_with model args boss links done kids (name_of shown) (out-Kid shown).sim)) (seat-in-net (name_of shown) path at.path not_exec (beneath.rest, beneath.is))
        ∙ leaf-within same-itself model args boss links done kids (name_of shown) none (seat_behind at_path at.path) (out-Kid shown).sim
        ∙ seated kind)
        (part_places handle at_path inner) own (places-beneath handle at_path inner))

    kids-seated : (tree : Sim) (kids : List WiredKid) → AllByRecursion (OfKid AreSeated) kids → AllByRecursion (λ (kid : Kid). IsPlaced (out-Kid kid).sim) (map (kid_under look) kids) →
        AllByRecursion (λ (kid : Kid). is_same_name EXEC (name_of kid) ≡ false) (map (kid_under look) kids) → (done : List Kid) → IsDistinct is_same_name (map name_of (done ++ map (kid_under look) kids)) →
        tree ≡ whole model args boss (done ++ map (kid_under look) kids) links → AllByRecursion (IsSeated path tree) (flat_map (λ (kid : WiredKid). kid_places kid path) kids)
    kids-seated tree [] known placed not_exec done distinct is = tt
    kids-seated tree (kid ∷ kids) known placed not_exec done distinct is =
        let shown = kid_under look kid in
        let later = map (kid_under look) kids in
        let again = append_assoc done (shown ∷ []) later in
        all-join (IsSeated path tree) (kid_places kid path) (flat_map (λ (own : WiredKid). kid_places own path) kids)
        (subst (λ (t : Sim). AllByRecursion (IsSeated path t) (kid_places kid path)) (sym is) (kid-seated kid known.0 placed.0 not_exec.0 done later (none-before done shown later distinct)))
        (kids-seated tree kids known.1 placed.1 not_exec.1 (done ++ shown ∷ []) (subst (λ (all : List Kid). IsDistinct is_same_name (map name_of all)) (sym again) distinct)
        (is ∙ ap (λ (all : List Kid). whole model args boss all links) (sym again)))

    boss-seated : (kids : List Kid) (handle : Handle) → boss ≡ leaf_in (look handle) → IsSeated path (whole model args boss kids links) (place handle (to_boss path) false)
    boss-seated kids handle is kind =
        ap (λ (names : List Name). leaf_at (seat_of names) (whole model args boss kids links)) (drop-front path.names (EXEC ∷ []))
        ∙ ap (λ (here : Bool). let seat : Seat = if here then record { names = []; is_boss = true } else record { names = EXEC ∷ []; is_boss = false } in leaf_at seat (whole model args boss kids links)) (same-itself EXEC)
        ∙ boss-at-whole model args boss kids links
        ∙ ap (λ (leaf : Leaf). Some leaf) is

  net-seated : (net : Wiring) → AllByRecursion (OfKid AreSeated) (out-Wiring net).kids → AreSeated net
  net-seated net known handle path placed =
      let inside = out-Wiring net in
      let boss = leaf_in (look inside.boss) in
      let kids = map (kid_under look) inside.kids in
      let tree = whole (model_in (look handle)) (args_in (look handle)) boss kids inside.links in
      let shows : sim.Net (net_under look net handle) ≡ tree = ap sim.Net (net-shows look net handle) in
      let places = net-places (net_of (model_in (look handle)) (args_in (look handle)) boss kids inside.links) (subst IsPlaced shows placed) in
      let names = map name_of kids in
      let opens = opened (model_in (look handle)) (args_in (look handle)) boss kids inside.links in
      let distinct : IsDistinct is_same_name (EXEC ∷ names) = subst (λ (own : Net-F Sim Kid Net). IsDistinct is_same_name (EXEC ∷ map name_of own.kids)) opens places.0 in
      let all : AllByRecursion (λ (kid : Kid). IsPlaced (out-Kid kid).sim) kids = subst (λ (own : Net-F Sim Kid Net). AllByRecursion (λ (kid : Kid). IsPlaced (out-Kid kid).sim) own.kids) opens places.1 in
      let last = place inside.boss (to_boss path) false in
      subst (λ (t : Sim). AllByRecursion (IsSeated path t) (net_places net path)) (sym shows)
      (subst (AllByRecursion (IsSeated path tree)) (sym (net-stands net path))
      (all-join (IsSeated path tree) (flat_map (λ (kid : WiredKid). kid_places kid path) inside.kids) (last ∷ [])
      (kids-seated (model_in (look handle)) (args_in (look handle)) boss inside.links path tree inside.kids known all
      (names-of (λ (name : Name). is_same_name EXEC name ≡ false) kids (IsDistinct-head is_same_name EXEC names distinct)) [] (IsDistinct-tail is_same_name EXEC names distinct) refl)
      (boss-seated (model_in (look handle)) (args_in (look handle)) boss inside.links path kids inside.boss refl, tt)))

  every : (own : Option Wiring) → Beneath AreSeated own
  every None = tt
  every (Some net) = each_wiring AreSeated net-seated net

  -- all that lie at the places of a part
  pub all-seated : (handle : Handle) (path : Path) (own : Option Wiring) → IsPlaced (part_under look handle own) → AllByRecursion (IsSeated path (part_under look handle own)) (part_places handle path own)
  all-seated handle path own placed = part-seated handle path own (every own) placed
