-- What stands behind a move, a turn and a start.
use Rattle.std.proofs.Common.{◌≡◌, ◌↔◌, ℕ, suc, zero, ◌+◌, ◌-◌, ◌≤◌, true, List, [], ◌∷◌, ◌++◌, length, length-append, map, Option, Some, None, refl, sym, subst, ◌∙◌, inr, append-nil, append_assoc, arith}
use Rattle.std.specs.Prelude.{Ok, if◌then◌else◌}
use Rattle.std.specs.List.{AllByRecursion, Contains, list_any, flat_map}
use Rattle.std.specs.declared.cmp.Ordering.TheVariants.{Equal}
use Rattle.dsde_values.specs.declared.name.Name.{Name}
use Rattle.dsde_values.specs.declared.path.Path.{Path}
use Rattle.dsde_values.specs.declared.value.Value.{Value}
use Rattle.dsde_values.specs.Path.{name_cmp}
use Rattle.dsde_sim_tree.specs.given.language.ids_ModelId.{ModelId}
use Rattle.dsde_sim_tree.specs.given.formalism.leaf_Leaf.{Leaf}
use Rattle.dsde_sim_tree.specs.given.formalism.leaf_MoveKind.{MoveKind}
use Rattle.dsde_sim_tree.specs.given.formalism.System.{System, Ports}
use Rattle.dsde_sim_tree.specs.given.formalism.Leaf.{component_of, kind_of, transition, move_leaf}
use Rattle.dsde_sim_tree.specs.given.structure.plan_Entry.{Entry}
use Rattle.dsde_sim_tree.specs.given.structure.plan_Link.{Link}
use Rattle.dsde_sim_tree.specs.given.structure.plan_Part_TheVariants as part
use Rattle.dsde_sim_tree.specs.given.structure.plan_Plan.{Plan}
use Rattle.dsde_sim_tree.specs.given.structure.sources_Sources.{Sources}
use Rattle.dsde_sim_tree.specs.given.structure.Gather.{gathered}
use Rattle.dsde_sim_tree.specs.given.structure.Survival as entry
use Rattle.dsde_sim_tree.specs.declared.event.Event.TheVariants.{Move}
use Rattle.dsde_sim_tree.specs.Told.{Told, told, ◌then◌, at, below, to_boss}
use Rattle.dsde_sim_tree.specs.declared.sim.Kid.{Kid}
use Rattle.dsde_sim_tree.specs.declared.sim.Net.{Net}
use Rattle.dsde_sim_tree.specs.declared.sim.Sim.{Sim}
use Rattle.dsde_sim_tree.specs.declared.sim.Sim.TheVariants as sim
use Rattle.dsde_sim_tree.specs.declared.sim.Sim.TheViews.{out-Kid, out-Net}
use Rattle.dsde_sim_tree.specs.declared.sim.TheConstants.{DEEPEST}
use Rattle.dsde_sim_tree.specs.Opened.{spots-Leaf, spots-Net, spots-net, spots-kid, move-Leaf, move-Net, net_move-opens, kid_move-opens, as_leaf, as_net}
use Rattle.dsde_sim_tree.specs.Output.{kid_output, sources_of}
use Rattle.dsde_sim_tree.specs.Spots.{Spot, spots_of_kid}
use Rattle.dsde_sim_tree.specs.Start.{net_of, kid_of, structure_of}
use Rattle.dsde_sim_tree.specs.Move.{take_move, move_leaf_at, ins_of, change, moved, after_boss, after_kids, net_moves, kid_move, net_move, move}
use Rattle.dsde_sim_tree.specs.Tree.{model_of, args_of, entry_of}
use Rattle.dsde_sim_tree.specs.lemmas.Trees.{each_tree}
use Rattle.dsde_sim_movers.specs.Stands.{deepest, depth, depth_of_kid, StandsLeaf, StandsSpot}
use Rattle.dsde_sim_movers.specs.Stands.{IsForward, StandsIn, HasPlan}
use Rattle.dsde_sim_movers.specs.lemmas.Opened.{depth-Leaf, depth-Net, depth-kid, model-Leaf, args-Leaf, model-Net, args-Net}
use Rattle.dsde_sim_movers.proofs.Brings.{Brings, brings-then, brings-told, at-ok, bind-ok}
use Rattle.dsde_sim_movers.specs.lemmas.Standing.{IsLeaf, IsPart, KidStands, leaf-part, net-part, IsKid, kid-is, AreKids, kids-behind, stay-through}
use Rattle.dsde_sim_movers.proofs.Starting.{settled-stands}
use Rattle.dsde_sim_movers.proofs.StandingChanging.{change-stands}

deepest-some : (depths : List ℕ) → 1 ≤ deepest depths
deepest-some [] = omega arith
deepest-some (depth ∷ depths) = omega (arith, deepest-some depths)

module _ (one : (name other : Name) → (name_cmp name other ≡ Equal) ↔ (name ≡ other)) (found : (old : Entry) (news : List Entry) → (list_any (entry.survives old) news ≡ true) ↔ ((new : Entry) × Contains news new × entry.StaysAs old new))
    (system : System) (forward : IsForward system) (time : ℕ) where
  take-stands : (leaf : Leaf) (kind : MoveKind) (path : Path) (got : Ports) → Brings (IsLeaf system time leaf.model leaf.boss leaf.args) (take_move system leaf kind path time got)
  take-stands leaf kind path got =
      brings-then (IsLeaf system time leaf.model leaf.boss leaf.args) (IsLeaf system time leaf.model leaf.boss leaf.args) [] (at path (move_leaf system leaf kind time got)) _
      (λ moved is.
      let taken = bind-ok (transition (component_of system leaf) leaf.state kind (time - leaf.last) got) _ moved (at-ok path (move_leaf system leaf kind time got) moved is) in
      settled-stands system forward time leaf.model leaf.boss leaf.args taken.0 moved taken.2)
      (λ moved own. brings-told (IsLeaf system time leaf.model leaf.boss leaf.args) (Move path leaf.model kind moved.state moved.next ∷ []) moved own)

  leaf-moves : (leaf : Leaf) (kind : Option MoveKind) (path : Path) (got : Ports) → StandsLeaf system time leaf →
      (let step : Told Leaf = elim kind [ Some kind ↦ take_move system leaf kind path time got | None ↦ told [] leaf ] in Brings (IsLeaf system time leaf.model leaf.boss leaf.args) step)
  leaf-moves leaf (Some kind) path got stands = take-stands leaf kind path got
  leaf-moves leaf None path got stands =
      brings-told (IsLeaf system time leaf.model leaf.boss leaf.args) [] leaf (record { stands = stands; model_is = refl; boss_is = refl; args_is = refl })

  -- the names of a path, and how deep a part at it may be
  abbrev IsAt : ℕ → Path → Type 0
  IsAt left path = left + length path.names ≡ suc DEEPEST

  abbrev Moved : Sim → Type 0
  Moved own =
      (left room : ℕ) (path : Path) (got : Ports) → StandsIn system time left own → IsAt left path
      → Brings (λ after. IsPart system time left (model_of own) (args_of own) after.0) (move system own path time got room)

  leaf-case : (leaf : Leaf) → Moved (sim.Leaf leaf)
  leaf-case leaf left room path got stands is_at =
      let own = subst (AllByRecursion (StandsSpot system time)) (spots-Leaf leaf) stands.all in
      let step = move_leaf_at system leaf path time got in
      subst (Brings (λ after. IsPart system time left (model_of (sim.Leaf leaf)) (args_of (sim.Leaf leaf)) after.0)) (sym (move-Leaf system leaf path time got room))
      (brings-then (IsLeaf system time leaf.model leaf.boss leaf.args) (λ after. IsPart system time left (model_of (sim.Leaf leaf)) (args_of (sim.Leaf leaf)) after.0) step.events step.end (as_leaf room)
      (leaf-moves leaf (kind_of leaf time got) path got own.0.stands)
      (λ after moved. brings-told (λ after. IsPart system time left (model_of (sim.Leaf leaf)) (args_of (sim.Leaf leaf)) after.0) [] (sim.Leaf after, room)
      (let same = leaf-part system time left leaf.model leaf.args after (omega (arith, stands.depth, depth-Leaf leaf)) own.0.atomic
      (record { stands = moved.stands; model_is = moved.model_is; boss_is = moved.boss_is ∙ own.0.not_boss; args_is = moved.args_is }) in
      record { stands = same.stands; model_is = same.model_is ∙ sym (model-Leaf leaf); args_is = same.args_is ∙ sym (args-Leaf leaf) })))

  -- a component moves
  kid-moves : (left : ℕ) (kid : Kid) → Moved (out-Kid kid).sim → KidStands system time left kid → (path : Path) → IsAt (suc left) path → (links : List Link) (sources : Sources) (room : ℕ) →
      Brings (λ after. IsKid system time left (entry_of kid) after.0) (kid_move system kid path time links sources room)
  kid-moves left kid moves stands path is_at links sources room =
      let name = (out-Kid kid).name in
      let own = (out-Kid kid).sim in
      let got = gathered system.translate links sources (part.Kid name) (ins_of system own) in
      let step = move system own (below path name) time got room in
      let here : IsAt left (below path name) = omega (arith, is_at, length-append path.names (name ∷ [])) in
      subst (Brings (λ after. IsKid system time left (entry_of kid) after.0)) (sym (kid_move-opens system kid path time links sources room))
      (brings-then (λ after. IsPart system time left (model_of own) (args_of own) after.0) (λ after. IsKid system time left (entry_of kid) after.0) step.events step.end _
      (moves left room (below path name) got stands here)
      (λ after moved. brings-told (λ one. IsKid system time left (entry_of kid) one.0) [] (kid_of name after.0, after.1) (kid-is system time left (entry_of kid) (args_of own) after.0 (inr refl) moved)))

  kids-move : (left : ℕ) (path : Path) → IsAt (suc left) path → (links : List Link) (sources : Sources) (before : List Entry) (kids : List Kid) (room : ℕ) (done : List Kid) →
      AllByRecursion (λ kid. Moved (out-Kid kid).sim) kids → AllByRecursion (KidStands system time left) kids → AreKids system time left before done →
      Brings (λ after. AreKids system time left (before ++ map entry_of kids) after.0) (moved (map (kid_move system) kids) path time links sources room done)
  kids-move left path is_at links sources before [] room done each stand so_far =
      brings-told (λ after. AreKids system time left (before ++ []) after.0) [] (done, room) (subst (λ (own : List Entry). AreKids system time left own done) (sym (append-nil before)) so_far)
  kids-move left path is_at links sources before (kid ∷ kids) room done each stand so_far =
      let step = kid_move system kid path time links sources room in
      brings-then (λ after. IsKid system time left (entry_of kid) after.0) (λ after. AreKids system time left (before ++ map entry_of (kid ∷ kids)) after.0) step.events step.end _
      (kid-moves left kid each.0 stand.0 path is_at links sources room)
      (λ one own. subst (λ (all : List Entry). Brings (λ (after : List Kid × ℕ). AreKids system time left all after.0) (moved (map (kid_move system) kids) path time links sources one.1 (done ++ one.0 ∷ []))) (append_assoc before (entry_of kid ∷ []) (map entry_of kids))
      (kids-move left path is_at links sources (before ++ entry_of kid ∷ []) kids one.1 (done ++ one.0 ∷ []) each.1 stand.1 (kids-behind system time left before (entry_of kid) done one.0 so_far own)))

  module _ (left : ℕ) (some : 1 ≤ left) (model : ModelId) (args : List Value) (network : system.is_network model ≡ true) (path : Path) (is_at : IsAt (suc left) path) where
    abbrev NetIs : Net × ℕ → Type 0
    NetIs after = IsPart system time (suc left) model args (sim.Net after.0)

    -- the structure of an executive that has moved
    after-boss : (boss : Leaf) (kids : List Kid) (room : ℕ) → IsLeaf system time model true args boss → AllByRecursion (KidStands system time left) kids →
        Brings NetIs (after_boss system model args kids path time room boss)
    after-boss boss kids room own stand =
        brings-then (λ plan. (system.network model args).structure boss.state ≡ Ok plan) NetIs [] (structure_of system model args boss path) _
        (λ plan is. at-ok (to_boss path) ((system.network model args).structure boss.state) plan is)
        (λ plan structure. let step = change system plan.entries kids path time room in
        brings-then (λ after. AreKids system time left plan.entries after.0) NetIs step.events step.end _
        (change-stands one found system forward time left plan.entries kids path room (forward.ordered model args boss.state plan structure) (omega (arith, is_at)) stand)
        (λ changed all. brings-told NetIs [] (net_of model args boss changed.0 plan.links, changed.1)
        (net-part system time left model args boss changed.0 plan.links plan some network own all.stand structure (record { stay = all.stay; links_are = refl }))))

    boss-moves : (boss : Leaf) (links : List Link) (kids : List Kid) (plan : Plan) (kind : Option MoveKind) (got : Ports) (room : ℕ) →
        IsLeaf system time model true args boss → AreKids system time left plan.entries kids → (system.network model args).structure boss.state ≡ Ok plan → links ≡ plan.links →
        (let step : Told (Net × ℕ) = elim kind [
          | Some kind ↦ take_move system boss kind (to_boss path) time got then after_boss system model args kids path time room
          | None ↦ told [] (net_of model args boss kids links, room)
        ] in Brings NetIs step)
    boss-moves boss links kids plan (Some kind) got room own all structure links_are =
        let step = take_move system boss kind (to_boss path) time got in
        brings-then (IsLeaf system time boss.model boss.boss boss.args) NetIs step.events step.end (after_boss system model args kids path time room)
        (take-stands boss kind (to_boss path) got)
        (λ moved is. after-boss moved kids room (record { stands = is.stands; model_is = is.model_is ∙ own.model_is; boss_is = is.boss_is ∙ own.boss_is; args_is = is.args_is ∙ own.args_is }) all.stand)
    boss-moves boss links kids plan None got room own all structure links_are =
        brings-told NetIs [] (net_of model args boss kids links, room)
        (net-part system time left model args boss kids links plan some network own all.stand structure (record { stay = all.stay; links_are = links_are }))

    net-moves : (boss : Leaf) (links : List Link) (kids : List Kid) (plan : Plan) (got : Ports) (room : ℕ) → IsLeaf system time model true args boss →
        AllByRecursion (λ kid. Moved (out-Kid kid).sim) kids → AllByRecursion (KidStands system time left) kids →
        (system.network model args).structure boss.state ≡ Ok plan → HasPlan (map entry_of kids) links plan →
        Brings NetIs (net_moves system model args boss (map (kid_output system) kids) (map (kid_move system) kids) links path time got room)
    net-moves boss links kids plan got room own each stand structure has =
        brings-then (λ (sources : Sources). Unit {0}) NetIs [] (sources_of system (map (kid_output system) kids) boss path time got) _ (λ sources is. tt)
        (λ sources none. let step = moved (map (kid_move system) kids) path time links sources room [] in
        brings-then (λ after. AreKids system time left (map entry_of kids) after.0) NetIs step.events step.end (after_kids system model args boss links path time sources)
        (kids-move left path is_at links sources [] kids room [] each stand (record { stand = tt; stay = tt }))
        (λ after all. boss-moves boss links after.0 plan (kind_of boss time (gathered system.translate links sources part.Boss (component_of system boss).ins)) (gathered system.translate links sources part.Boss (component_of system boss).ins) after.1 own
        (record { stand = all.stand; stay = stay-through after.0 kids plan.entries all.stay has.stay }) structure has.links_are))

  kids-stand : (left : ℕ) (kids : List Kid) → AllByRecursion (StandsSpot system time) (flat_map spots_of_kid kids) → deepest (map depth_of_kid kids) ≤ left → AllByRecursion (KidStands system time left) kids
  kids-stand left [] all deep = tt
  kids-stand left (kid ∷ kids) all deep =
      let split = each-split (spots_of_kid kid) (flat_map spots_of_kid kids) all in (
        record { all = subst (AllByRecursion (StandsSpot system time)) (spots-kid kid) split.0; depth = omega (arith, deep, depth-kid kid) },
        kids-stand left kids split.1 (omega (arith, deep)),
      )
    where
      each-split : (xs ys : List Spot) → AllByRecursion (StandsSpot system time) (xs ++ ys) → AllByRecursion (StandsSpot system time) xs × AllByRecursion (StandsSpot system time) ys
      each-split [] ys all = (tt, all)
      each-split (x ∷ xs) ys all = let rest = each-split xs ys all.1 in ((all.0, rest.0), rest.1)

  net-case : (net : Net) → AllByRecursion (λ kid. Moved (out-Kid kid).sim) (out-Net net).kids → Moved (sim.Net net)
  net-case net each zero room path got stands is_at = absurd (omega (arith, stands.depth, depth-Net net))
  net-case net each (suc left) room path got stands is_at =
      let own = subst (AllByRecursion (StandsSpot system time)) (spots-Net net ∙ spots-net net) stands.all in
      let whole = out-Net net in
      let deep : deepest (map depth_of_kid whole.kids) ≤ left = omega (arith, stands.depth, depth-Net net) in
      let some : 1 ≤ left = omega (arith, deep, deepest-some (map depth_of_kid whole.kids)) in
      let step = net_move system net path time got room in
      subst (Brings (λ after. IsPart system time (suc left) (model_of (sim.Net net)) (args_of (sim.Net net)) after.0)) (sym (move-Net system net path time got room))
      (brings-then (λ after. IsPart system time (suc left) whole.model whole.args (sim.Net after.0)) (λ after. IsPart system time (suc left) (model_of (sim.Net net)) (args_of (sim.Net net)) after.0) step.events step.end as_net
      (subst (Brings (λ after. IsPart system time (suc left) whole.model whole.args (sim.Net after.0))) (sym (net_move-opens system net path time got room))
      (net-moves left some whole.model whole.args own.0.network path is_at whole.boss whole.links whole.kids own.0.plan got room
      (record { stands = own.0.boss; model_is = own.0.model; boss_is = own.0.is_boss; args_is = own.0.args })
      each (kids-stand left whole.kids own.1 deep) own.0.structure own.0.has))
      (λ after is. brings-told (λ after. IsPart system time (suc left) (model_of (sim.Net net)) (args_of (sim.Net net)) after.0) [] (sim.Net after.0, after.1)
      (record { stands = is.stands; model_is = is.model_is ∙ sym (model-Net net); args_is = is.args_is ∙ sym (args-Net net) })))

  pub tree-moves : (own : Sim) → Moved own
  tree-moves = each_tree Moved leaf-case net-case
