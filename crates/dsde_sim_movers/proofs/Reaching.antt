-- Only what was there is reached, and only what stands below is added.
use Rattle.std.proofs.Common.{◌≡◌, ℕ, List, [], ◌∷◌, ◌++◌, map, refl, sym, ◌∙◌, ap, subst, append_assoc, inl, inr}
use Rattle.std.specs.List.{AllByRecursion, flat_map}
use Rattle.dsde_sim_tree.specs.Tree.{name_of}
use Rattle.dsde_values.specs.declared.name.Name.{Name}
use Rattle.dsde_values.specs.declared.path.Path.{Path}
use Rattle.dsde_values.specs.declared.value.Value.{Value}
use Rattle.dsde_sim_tree.specs.given.language.ids_ModelId.{ModelId}
use Rattle.dsde_sim_tree.specs.given.formalism.leaf_Leaf.{Leaf}
use Rattle.dsde_sim_tree.specs.given.formalism.Leaf.{component_of}
use Rattle.dsde_sim_tree.specs.given.formalism.System.{System, Ports}
use Rattle.dsde_sim_tree.specs.given.structure.plan_Link.{Link}
use Rattle.dsde_sim_tree.specs.given.structure.plan_Part_TheVariants as part
use Rattle.dsde_sim_tree.specs.given.structure.sources_Sources.{Sources}
use Rattle.dsde_sim_tree.specs.given.structure.Gather.{gathered}
use Rattle.dsde_sim_tree.specs.declared.event.Event.{Event}
use Rattle.dsde_sim_tree.specs.declared.event.Event.TheVariants.{AddNet, AddLeaf, Get, Move}
use Rattle.dsde_sim_tree.specs.Told.{below, Told, at, to_boss}
use Rattle.dsde_sim_tree.specs.declared.sim.Kid.{Kid}
use Rattle.dsde_sim_tree.specs.declared.sim.Net.{Net}
use Rattle.dsde_sim_tree.specs.declared.sim.Sim.{Sim}
use Rattle.dsde_sim_tree.specs.declared.sim.Sim.TheVariants as sim
use Rattle.dsde_sim_tree.specs.declared.sim.Sim.TheViews.{out-Kid, out-Net}
use Rattle.dsde_sim_tree.specs.Move.{move_leaf_at, moved, boss_moves, after_kids, with_sources, net_moves, move, kid_move, net_move, ins_of}
use Rattle.dsde_sim_tree.specs.Opened.{as_leaf, as_net, move-Leaf, move-Net, kid_move-opens, net_move-opens}
use Rattle.dsde_sim_tree.specs.Output.{sources_of, kid_output}
use Rattle.dsde_sim_tree.specs.Start.{start}
use Rattle.dsde_sim_tree.specs.lemmas.Trees.{each_tree}
use Rattle.dsde_sim_movers.specs.Places.{paths_from, paths_of_kid, added, reached}
use Rattle.dsde_sim_movers.specs.lemmas.Events.{each-weaker, each-then, Among, among-left, among-right}
use Rattle.dsde_sim_movers.specs.lemmas.Opens.{paths-Leaf, paths-Net, paths-kid}
use Rattle.dsde_sim_movers.proofs.Adds.{IsStart}
use Rattle.dsde_sim_movers.proofs.DeliveryTelling.{leaf-told, boss-told}

-- A path stands below another.
abbrev pub IsBelow : Path → Path → Type 0
IsBelow path at = (name : Name) × (beneath : List Name) × (at.names ≡ path.names ++ name ∷ beneath)

-- an event that, if it reaches a part, reaches one of these places, and, if it adds one, adds it below this path
abbrev pub IsOf : List Path → Path → Event → Type 0
IsOf places path (AddNet at model) = IsBelow path at
IsOf places path (AddLeaf at model state next) = IsBelow path at
IsOf places path (Get at model port value) = Among at places
IsOf places path (Move at model kind state next) = Among at places
IsOf places path _ = Unit {0}

abbrev pub AreOf : List Path → Path → List Event → Type 0
AreOf places path events = AllByRecursion (IsOf places path) events

wider : (places more : List Path) (path above : Path) → ((at : Path) → Among at places → Among at more) → ((at : Path) → IsBelow path at → IsBelow above at) →
    (event : Event) → IsOf places path event → IsOf more above event
wider places more path above in_more lower (AddNet at model) is = lower at is
wider places more path above in_more lower (AddLeaf at model state next) is = lower at is
wider places more path above in_more lower (Get at model port value) is = in_more at is
wider places more path above in_more lower (Move at model kind state next) is = in_more at is
wider places more path above in_more lower event is = tt

in_more_places : (places more : List Path) (path : Path) → ((at : Path) → Among at places → Among at more) → (events : List Event) → AreOf places path events → AreOf more path events
in_more_places places more path in_more events are =
    each-weaker (IsOf places path) (IsOf more path) (wider places more path path in_more (λ at lower. lower)) events are

below_name : (path : Path) (name : Name) (at : Path) → IsBelow (below path name) at → IsBelow path at
below_name path name at lower = (name, lower.0 ∷ lower.1, lower.2 ∙ append_assoc path.names (name ∷ []) (lower.0 ∷ lower.1))

started-of : (places : List Path) (path : Path) (name : Name) (event : Event) → IsStart (below path name) event → IsOf places path event
started-of places path name (AddNet at model) start = (name, start.0, start.1 ∙ append_assoc path.names (name ∷ []) start.0)
started-of places path name (AddLeaf at model state next) start = (name, start.0, start.1 ∙ append_assoc path.names (name ∷ []) start.0)
started-of places path name event start = absurd start

-- the paths of the parts of these components
abbrev pub paths_of_kids : Path → List Kid → List Path
paths_of_kids path kids = flat_map (λ kid. paths_of_kid kid path) kids

module _ (system : System) where
  module _ (places : List Path) (path : Path) where
    pub leaf-of : (leaf : Leaf) (at_path : Path) → Among at_path places → (time : ℕ) (got : Ports) → AreOf places path (move_leaf_at system leaf at_path time got).events
    leaf-of leaf at_path there time got =
        leaf-told system (IsOf places path) at_path (λ model port value. there) (λ model kind state next. there) leaf time got

    pub boss-of : (model : ModelId) (args : List Value) (boss : Leaf) (links : List Link) (kids : List Kid) → Among (to_boss path) places → (time : ℕ) (got : Ports) (room : ℕ) →
        AreOf places path (boss_moves system model args boss links kids path time got room).events
    boss-of model args boss links kids there time got room =
        boss-told system (IsOf places path) path (λ model port value. there) (λ model kind state next. there) (λ at count. tt) (started-of places path) model args boss links kids time got room

  -- a move reaches only the parts that there are
  abbrev pub MovesOf : Sim → Type 0
  MovesOf tree = (path : Path) (time : ℕ) (got : Ports) (room : ℕ) → AreOf (paths_from tree path) path (move system tree path time got room).events

  of_leaf : (leaf : Leaf) → MovesOf (sim.Leaf leaf)
  of_leaf leaf path time got room =
      let places = paths_from (sim.Leaf leaf) path in
      let there : Among path places = subst (λ (ps : List Path). Among path ps) (sym (paths-Leaf leaf path)) (inl refl) in
      let step = move_leaf_at system leaf path time got in
      subst (λ (t : Told (Sim × ℕ)). AreOf places path t.events) (sym (move-Leaf system leaf path time got room))
      (each-then (IsOf places path) step.events step.end (as_leaf room) (leaf-of places path leaf path there time got) (λ after. tt))

  -- the move of a component, as one of its network
  pub kid-of : (kid : Kid) → MovesOf (out-Kid kid).sim → (path : Path) (time : ℕ) (links : List Link) (sources : Sources) (room : ℕ) →
      AreOf (paths_of_kid kid path) (below path (name_of kid)) (kid_move system kid path time links sources room).events
  kid-of kid moves path time links sources room =
      let place = below path (name_of kid) in
      let got = gathered system.translate links sources (part.Kid (name_of kid)) (ins_of system (out-Kid kid).sim) in
      let step = move system (out-Kid kid).sim place time got room in
      subst (λ (places : List Path). AreOf places place (kid_move system kid path time links sources room).events) (sym (paths-kid kid path))
      (subst (λ (t : Told (Kid × ℕ)). AreOf (paths_from (out-Kid kid).sim place) place t.events) (sym (kid_move-opens system kid path time links sources room))
      (each-then (IsOf (paths_from (out-Kid kid).sim place) place) step.events step.end _ (moves place time got room) (λ after. tt)))

  pub kids-of : (kids : List Kid) → AllByRecursion (λ kid. MovesOf (out-Kid kid).sim) kids → (path : Path) (time : ℕ) (links : List Link) (sources : Sources) (room : ℕ) (done : List Kid) →
      AreOf (paths_of_kids path kids) path (moved (map (kid_move system) kids) path time links sources room done).events
  kids-of [] moves path time links sources room done = tt
  kids-of (kid ∷ kids) moves path time links sources room done =
      let step = kid_move system kid path time links sources room in
      let places = paths_of_kids path (kid ∷ kids) in
      each-then (IsOf places path) step.events step.end _
      (each-weaker (IsOf (paths_of_kid kid path) (below path (name_of kid))) (IsOf places path)
      (wider (paths_of_kid kid path) places (below path (name_of kid)) path (λ at there. among-left at (paths_of_kid kid path) (paths_of_kids path kids) there) (below_name path (name_of kid)))
      step.events (kid-of kid moves.0 path time links sources room))
      (λ one. in_more_places (paths_of_kids path kids) places path (λ at there. among-right at (paths_of_kid kid path) (paths_of_kids path kids) there) _
      (kids-of kids moves.1 path time links sources one.1 (done ++ one.0 ∷ [])))

  of_net : (net : Net) → AllByRecursion (λ kid. MovesOf (out-Kid kid).sim) (out-Net net).kids → MovesOf (sim.Net net)
  of_net net moves path time got room =
      let open_net = out-Net net in
      let places = path ∷ paths_of_kids path open_net.kids ++ to_boss path ∷ [] in
      let answers = map (kid_output system) open_net.kids in
      let kids_moves = map (kid_move system) open_net.kids in
      let there : Among (to_boss path) places = inr (among-right (to_boss path) (paths_of_kids path open_net.kids) (to_boss path ∷ []) (inl refl)) in
      let whole = net_moves system open_net.model open_net.args open_net.boss answers kids_moves open_net.links path time got room in
      let of_whole : AreOf places path whole.events =
      each-then (IsOf places path) [] (sources_of system answers open_net.boss path time got)
      (with_sources system open_net.model open_net.args open_net.boss kids_moves open_net.links path time room) tt (λ sources.
      let step = moved kids_moves path time open_net.links sources room [] in
      each-then (IsOf places path) step.events step.end (after_kids system open_net.model open_net.args open_net.boss open_net.links path time sources)
      (in_more_places (paths_of_kids path open_net.kids) places path (λ at in_kids. inr (among-left at (paths_of_kids path open_net.kids) (to_boss path ∷ []) in_kids)) step.events
      (kids-of open_net.kids moves path time open_net.links sources room []))
      (λ kids. boss-of places path open_net.model open_net.args open_net.boss open_net.links kids.0 there time (gathered system.translate open_net.links sources part.Boss (component_of system open_net.boss).ins) kids.1)) in
      let opened : AreOf places path (net_move system net path time got room).events =
      subst (λ (t : Told (Net × ℕ)). AreOf places path t.events) (sym (net_move-opens system net path time got room)) of_whole in
      let step = net_move system net path time got room in
      subst (λ (ps : List Path). AreOf ps path (move system (sim.Net net) path time got room).events) (sym (paths-Net net path))
      (subst (λ (t : Told (Sim × ℕ)). AreOf places path t.events) (sym (move-Net system net path time got room))
      (each-then (IsOf places path) step.events step.end as_net opened (λ after. tt)))

  -- Each move tells only gets and moves of parts that there are, and adds only below.
  pub moves-of : (tree : Sim) → MovesOf tree
  moves-of = each_tree MovesOf of_leaf of_net

pub added-below : (places : List Path) (path : Path) (event : Event) → IsOf places path event → (at : Path) → Among at (added event) → IsBelow path at
added-below places path (AddNet at model) is p (inl same) = (is.0, is.1, ap (λ (q : Path). q.names) same ∙ is.2)
added-below places path (AddNet at model) is p (inr none) = absurd none
added-below places path (AddLeaf at model state next) is p (inl same) = (is.0, is.1, ap (λ (q : Path). q.names) same ∙ is.2)
added-below places path (AddLeaf at model state next) is p (inr none) = absurd none
added-below places path event is p there = absurd there

pub reached-among : (places : List Path) (path : Path) (event : Event) → IsOf places path event → (at : Path) → Among at (reached event) → Among at places
reached-among places path (Get at model port value) is p (inl same) = subst (λ (q : Path). Among q places) (sym same) is
reached-among places path (Get at model port value) is p (inr none) = absurd none
reached-among places path (Move at model kind state next) is p (inl same) = subst (λ (q : Path). Among q places) (sym same) is
reached-among places path (Move at model kind state next) is p (inr none) = absurd none
reached-among places path event is p there = absurd there
