-- Moves of parts.
use Rattle.std.proofs.Common.{◌≡◌, ℕ, false, List, [], ◌∷◌, ◌++◌, length, map, Option, Some, None, slice_get, refl, sym, ap, subst, ◌∙◌, append-nil, append_assoc}
use Rattle.std.specs.List.{AllByRecursion, Contains}
use Rattle.dsde_syntax.specs.declared.decl.Model.{Model}
use Rattle.dsde_values.specs.declared.path.Path.{Path}
use Rattle.dsde_values.specs.declared.types.Field.{Field}
use Rattle.dsde_values.specs.declared.value.Value.{Value}
use Rattle.dsde_values.specs.When.{IsMoment}
use Rattle.dsde_language.specs.declared.ids.ModelId.{ModelId}
use Rattle.dsde_language.specs.DeclaredModels.{types_of, Own, owns_of, body_ins}
use Rattle.dsde_structure.specs.declared.plan.Entry.{Entry}
use Rattle.dsde_structure.specs.declared.plan.Link.{Link}
use Rattle.dsde_structure.specs.declared.plan.Part.{Part}
use Rattle.dsde_structure.specs.declared.plan.Part.TheVariants as part
use Rattle.dsde_structure.specs.declared.sources.Sources.{Sources}
use Rattle.dsde_structure.specs.Gather.{gathered}
use Rattle.dsde_structure.specs.Survival.{IsInOrder}
use Rattle.dsde_formalism.specs.declared.leaf.Leaf.{Leaf}
use Rattle.dsde_formalism.specs.declared.leaf.MoveKind.{MoveKind}
use Rattle.dsde_formalism.specs.System.{Ports}
use Rattle.dsde_formalism.specs.Leaf.{component_of, kind_of}
use Rattle.dsde_sim_starting.specs.given.system.Program.{system}
use Rattle.dsde_sim_starting.specs.given.system.Fitting.{FitsInputs, Reach}
use Rattle.dsde_sim_starting.specs.given.system.Plans.{ArePortsOf, Cover, FitsLink, FitsSources, HasKid, ways}
use Rattle.dsde_sim_tree.specs.Told.{Told, told, quietly, ◌then◌, below, to_boss}
use Rattle.dsde_sim_tree.specs.declared.sim.Kid.{Kid}
use Rattle.dsde_sim_tree.specs.declared.sim.Net.{Net}
use Rattle.dsde_sim_tree.specs.declared.sim.Sim.{Sim}
use Rattle.dsde_sim_tree.specs.declared.sim.Sim.TheVariants as sim
use Rattle.dsde_sim_tree.specs.declared.sim.Sim.TheViews.{out-Kid, out-Net}
use Rattle.dsde_sim_tree.specs.Opened.{as_leaf, as_net, kid_move-opens, move-Leaf, move-Net, net_move-opens, shape_in}
use Rattle.dsde_sim_tree.specs.Output.{kid_output, sources_of}
use Rattle.dsde_sim_tree.specs.Start.{kid_of, net_of, structure_of}
use Rattle.dsde_sim_tree.specs.Move.{after_boss, after_kids, change, ins_of, kid_move, move, move_leaf_at, moved, net_move, net_moves, replanned, take_move, with_sources}
use Rattle.dsde_sim_tree.specs.Tree.{args_of, entry_of, model_of}
use Rattle.dsde_sim_tree.specs.lemmas.Trees.{each_tree}
use Rattle.dsde_sim_starting.specs.given.sound_structures.Sure.{FitsNetwork}
use Rattle.dsde_sound_runs.proofs.Relied.{Laws}
use Rattle.dsde_sound_runs.proofs.Safe.{Safe, safe-then}
use Rattle.dsde_sim_starting.specs.Fitting.{FitsAtomic, FitsKid, FitsLinks, FitsShape, FitsTree}
use Rattle.dsde_sound_runs.proofs.Ports.{Receives, inputs-of}
use Rattle.dsde_sim_starting.specs.lemmas.Fits.{kid-tree, leaf-tree, net-kids, net-shape, net-tree}
use Rattle.dsde_sim_starting.specs.lemmas.Stood.{Stood, component-ins, model-leaf, model-net, same-own, stood}
use Rattle.dsde_sound_runs.proofs.Opens.{args-Leaf, args-Net}
use Rattle.dsde_sound_runs.proofs.Leaves.{IsLeaf, leaf-moves, take-safe}
use Rattle.dsde_sound_runs.proofs.Starting.{AreKids, IsHead, IsKid, IsPart, kid-is, kids-behind, leaf-part, net-part, plan-links, structure-safe}
use Rattle.dsde_sound_runs.proofs.Changing.{change-safe}
use Rattle.dsde_sound_runs.proofs.Sending.{contains-here, contains-later, sources-safe}

module _ (model : Model) (laws : Laws model) (time : ℕ) (moment : IsMoment time) where
  abbrev pub Moved : Sim → Type 0
  Moved own =
      (path : Path) (got : Ports) (room : ℕ) → FitsTree model own → Receives model (model_of own).0 got
      → Safe (λ after. IsPart model (model_of own) (args_of own) after.0) (move (system model) own path time got room).end

  -- an atomic component moves with what came to it, or faults
  pub leaf-steps : (leaf : Leaf) (path : Path) (got : Ports) (room : ℕ) → FitsAtomic model leaf → FitsInputs model leaf.model.0 got →
      Safe (λ after. IsPart model (model_of (sim.Leaf leaf)) (args_of (sim.Leaf leaf)) after.0) (move_leaf_at (system model) leaf path time got then as_leaf room).end
  leaf-steps leaf path got room atomic came =
      safe-then (IsLeaf model leaf.model leaf.boss leaf.args) (λ after. IsPart model (model_of (sim.Leaf leaf)) (args_of (sim.Leaf leaf)) after.0) (move_leaf_at (system model) leaf path time got) (as_leaf room)
      (leaf-moves model laws time moment leaf atomic.fits got came (kind_of leaf time got) path)
      (λ after own.
      let same : IsPart model leaf.model leaf.args (sim.Leaf after) = leaf-part model leaf.model leaf.args after atomic.atomic (record { fits = own.fits; model_is = own.model_is; boss_is = own.boss_is ∙ atomic.component; args_is = own.args_is }) in
      record { fits = same.fits; model_is = same.model_is ∙ sym (model-leaf leaf); args_is = same.args_is ∙ sym (args-Leaf leaf) })

  leaf-case : (leaf : Leaf) → Moved (sim.Leaf leaf)
  leaf-case leaf path got room fits has =
      let atomic : FitsAtomic model leaf = leaf-tree model leaf fits in
      subst (λ (step : Told (Sim × ℕ)). Safe (λ after. IsPart model (model_of (sim.Leaf leaf)) (args_of (sim.Leaf leaf)) after.0) step.end) (sym (move-Leaf (system model) leaf path time got room))
      (leaf-steps leaf path got room atomic (inputs-of model leaf got atomic (subst (λ (number : ModelId). Receives model number.0 got) (model-leaf leaf) has)))

  -- what links carry to the parts of a network
  module _ (own : Own) (entries : List Entry) (links : List Link) (sources : Sources) (order : IsInOrder entries) (joined : AllByRecursion (FitsLink model own entries) links) (given : FitsSources model own entries sources) where
    reaches : (to : Part) (ports : List Field) → ArePortsOf model own entries false to ports → Reach (types_of model) ports (gathered (system model).translate links sources to (length ports))
    reaches to ports are = laws.gathered model own entries links sources to ports laws.right order joined given are

    pub box-fits : (kid : Kid) → Contains entries (entry_of kid) → FitsTree model (out-Kid kid).sim →
        Receives model (model_of (out-Kid kid).sim).0 (gathered (system model).translate links sources (part.Kid (out-Kid kid).name) (ins_of (system model) (out-Kid kid).sim))
    box-fits kid among fits =
        let one : Stood model (out-Kid kid).sim = stood model (out-Kid kid).sim fits in
        let has : HasKid model entries (out-Kid kid).name false (ways model one.stands false) =
        record { entry = entry_of kid; among = among; named = refl; own = one.stands; found = one.found; are = refl } in
        record {
          own = one.stands;
          found = one.found;
          reach = subst (λ (n : ℕ). Reach (types_of model) (ways model one.stands false) (gathered (system model).translate links sources (part.Kid (out-Kid kid).name) n)) (sym one.ins)
              (reaches (part.Kid (out-Kid kid).name) (ways model one.stands false) has);
        }

    pub boss-fits : (boss : Leaf) → slice_get (owns_of model.decls) boss.model.0 ≡ Some own → FitsInputs model boss.model.0 (gathered (system model).translate links sources part.Boss (component_of (system model) boss).ins)
    boss-fits boss found = record {
      own = own;
      found = found;
      reach = subst (λ (n : ℕ). Reach (types_of model) (body_ins model own) (gathered (system model).translate links sources part.Boss n)) (sym (component-ins model boss.model own found boss.args))
          (reaches part.Boss (body_ins model own) refl);
    }

    kid-moves : (kid : Kid) → Moved (out-Kid kid).sim → Contains entries (entry_of kid) → FitsKid model kid → (path : Path) (room : ℕ) →
        Safe (λ after. IsKid model (entry_of kid) after.0) (kid_move (system model) kid path time links sources room).end
    kid-moves kid moves among fits path room =
        let name = (out-Kid kid).name in
        let inner = (out-Kid kid).sim in
        let got : Ports = gathered (system model).translate links sources (part.Kid name) (ins_of (system model) inner) in
        let inside : FitsTree model inner = kid-tree model kid fits in
        subst (λ (step : Told (Kid × ℕ)). Safe (λ after. IsKid model (entry_of kid) after.0) step.end) (sym (kid_move-opens (system model) kid path time links sources room))
        (safe-then (λ after. IsPart model (model_of inner) (args_of inner) after.0) (λ after. IsKid model (entry_of kid) after.0) (move (system model) inner (below path name) time got room)
        (λ after. told [] (kid_of name after.0, after.1))
        (moves (below path name) got room inside (box-fits kid among inside)) (λ after part. kid-is model (entry_of kid) after.0 part))

    kids-move : (path : Path) (before : List Entry) (kids : List Kid) (room : ℕ) (done : List Kid) → AllByRecursion (λ (kid : Kid). Moved (out-Kid kid).sim) kids →
        ((other : Entry) → Contains (map entry_of kids) other → Contains entries other) → AllByRecursion (FitsKid model) kids → AreKids model before done →
        Safe (λ after. AreKids model (before ++ map entry_of kids) after.0) (moved (map (kid_move (system model)) kids) path time links sources room done).end
    kids-move path before [] room done each among fit so_far = subst (λ (all : List Entry). AreKids model all done) (sym (append-nil before)) so_far
    kids-move path before (kid ∷ kids) room done each among fit so_far =
        safe-then (λ after. IsKid model (entry_of kid) after.0) (λ after. AreKids model (before ++ map entry_of (kid ∷ kids)) after.0) (kid_move (system model) kid path time links sources room)
        (λ one. moved (map (kid_move (system model)) kids) path time links sources one.1 (done ++ one.0 ∷ []))
        (kid-moves kid each.0 (among (entry_of kid) (contains-here (entry_of kid) (map entry_of kids))) fit.0 path room)
        (λ one is.
        subst (λ (all : List Entry). Safe (λ (after : List Kid × ℕ). AreKids model all after.0) (moved (map (kid_move (system model)) kids) path time links sources one.1 (done ++ one.0 ∷ [])).end)
        (append_assoc before (entry_of kid ∷ []) (map entry_of kids))
        (kids-move path (before ++ entry_of kid ∷ []) kids one.1 (done ++ one.0 ∷ []) each.1 (λ other there. among other (contains-later (entry_of kid) other (map entry_of kids) there)) fit.1
        (kids-behind model before (entry_of kid) done one.0 so_far is)))

  module _ (number : ModelId) (args : List Value) (path : Path) where
    abbrev Behind : Net × ℕ → Type 0
    Behind after = IsPart model number args (sim.Net after.0)

    -- the structure of an executive that has moved
    boss-behind : (boss : Leaf) (kids : List Kid) (room : ℕ) → IsHead model number args boss → AllByRecursion (FitsKid model) kids →
        Safe Behind (after_boss (system model) number args kids path time room boss).end
    boss-behind boss kids room head fit =
        safe-then (FitsNetwork model number.0) Behind (quietly (structure_of (system model) number args boss path)) (replanned (system model) number args boss kids path time room)
        (structure-safe model laws time moment number args boss path head)
        (λ plan is.
        safe-then (λ after. AreKids model plan.entries after.0) Behind (change (system model) plan.entries kids path time room) (λ changed. told [] (net_of number args boss changed.0 plan.links, changed.1))
        (change-safe model laws time moment plan.entries kids path room is.fits.order is.fits.entries fit)
        (λ changed all. net-part model number args boss changed.0 plan.entries plan.links head all (plan-links model number plan head.network is)))

    -- an executive with what came to it: it moves and its structure follows, or it stays, or there is a fault
    pub boss-moves : (boss : Leaf) (links : List Link) (kids : List Kid) (entries : List Entry) (kind : Option MoveKind) (got : Ports) (room : ℕ) →
        IsHead model number args boss → AreKids model entries kids → FitsLinks model number entries links → FitsInputs model boss.model.0 got →
        (let step : Told (Net × ℕ) = elim kind [
          | Some kind ↦ take_move (system model) boss kind (to_boss path) time got then after_boss (system model) number args kids path time room
          | None ↦ told [] (net_of number args boss kids links, room)
        ] in Safe Behind step.end)
    boss-moves boss links kids entries (Some kind) got room head all fit came =
        safe-then (IsLeaf model boss.model boss.boss boss.args) Behind (take_move (system model) boss kind (to_boss path) time got) (after_boss (system model) number args kids path time room)
        (take-safe model laws time moment boss head.fits got came kind (to_boss path))
        (λ after own. boss-behind after kids room (record { network = head.network; args_fit = head.args_fit; fits = own.fits; is = record { model = own.model_is ∙ head.is.model; args = own.args_is ∙ head.is.args; executive = own.boss_is ∙ head.is.executive } }) all.fit)
    boss-moves boss links kids entries None got room head all fit came = net-part model number args boss kids entries links head all fit

    net-moves : (boss : Leaf) (links : List Link) (kids : List Kid) (got : Ports) (room : ℕ) → IsHead model number args boss → FitsLinks model number (map entry_of kids) links →
        AllByRecursion (λ (kid : Kid). Moved (out-Kid kid).sim) kids → AllByRecursion (FitsKid model) kids → Receives model number.0 got →
        Safe Behind (net_moves (system model) number args boss (map (kid_output (system model)) kids) (map (kid_move (system model)) kids) links path time got room).end
    net-moves boss links kids got room head fit each fits has =
        let entries : List Entry = map entry_of kids in
        let found : slice_get (owns_of model.decls) boss.model.0 ≡ Some fit.own = ap (λ (m : ModelId). slice_get (owns_of model.decls) m.0) head.is.model ∙ fit.found in
        let cover : Cover (types_of model) (ways model fit.own false) got =
        subst (λ (o : Own). Cover (types_of model) (ways model o false) got) (same-own (slice_get (owns_of model.decls) number.0) has.own fit.own has.found fit.found)
        (laws.covers (types_of model) (ways model has.own false) got has.reach) in
        safe-then (FitsSources model fit.own entries) Behind (quietly (sources_of (system model) (map (kid_output (system model)) kids) boss path time got))
        (with_sources (system model) number args boss (map (kid_move (system model)) kids) links path time room)
        (sources-safe model laws time fit.own boss kids path got head.fits found fits cover)
        (λ sources given.
        let box : Ports = gathered (system model).translate links sources part.Boss (component_of (system model) boss).ins in
        safe-then (λ after. AreKids model entries after.0) Behind (moved (map (kid_move (system model)) kids) path time links sources room [])
        (after_kids (system model) number args boss links path time sources)
        (kids-move fit.own entries links sources fit.order fit.each given path [] kids room [] each (λ other there. there) fits (record { fit = tt; are = refl }))
        (λ after all. boss-moves boss links after.0 entries (kind_of boss time box) box after.1 head all fit (boss-fits fit.own entries links sources fit.order fit.each given boss found)))

  net-case : (net : Net) → AllByRecursion (λ (kid : Kid). Moved (out-Kid kid).sim) (out-Net net).kids → Moved (sim.Net net)
  net-case net each path got room fits has =
      let shape : FitsShape model (shape_in net) = net-shape model net (net-tree model net fits) in
      let whole = out-Net net in
      let head : IsHead model whole.model whole.args whole.boss = record { network = shape.links.network; args_fit = shape.args; fits = shape.boss; is = shape.boss_is } in
      let came : Receives model whole.model.0 got = subst (λ (number : ModelId). Receives model number.0 got) (model-net net) has in
      subst (λ (step : Told (Sim × ℕ)). Safe (λ after. IsPart model (model_of (sim.Net net)) (args_of (sim.Net net)) after.0) step.end) (sym (move-Net (system model) net path time got room))
      (safe-then (λ after. IsPart model whole.model whole.args (sim.Net after.0)) (λ after. IsPart model (model_of (sim.Net net)) (args_of (sim.Net net)) after.0) (net_move (system model) net path time got room) as_net
      (subst (λ (step : Told (Net × ℕ)). Safe (λ after. IsPart model whole.model whole.args (sim.Net after.0)) step.end) (sym (net_move-opens (system model) net path time got room))
      (net-moves whole.model whole.args path whole.boss whole.links whole.kids got room head shape.links each (net-kids model net (net-tree model net fits)) came))
      (λ after is. record { fits = is.fits; model_is = is.model_is ∙ sym (model-net net); args_is = is.args_is ∙ sym (args-Net net) }))

  -- each part moves, or faults
  pub tree-moves : (own : Sim) → Moved own
  tree-moves = each_tree Moved leaf-case net-case
