-- Those that move one after another in a lawful order: each has its seat when its turn comes, and moves or faults.
use Rattle.std.proofs.Common.{◌≡◌, ◌∙◌, ℕ, Bool, true, false, List, [], ◌∷◌, ◌++◌, Option, Some, None, Result, Ok, Err, map, refl, sym, ap, subst}
use Rattle.std.specs.Prelude.{IfSome, option_and_then}
use Rattle.std.specs.List.{AllByRecursion}
use Rattle.dsde_syntax.specs.declared.decl.Model.{Model}
use Rattle.dsde_values.specs.declared.arrival.Item.{Item}
use Rattle.dsde_values.specs.declared.name.Name.{Name}
use Rattle.dsde_values.specs.declared.path.Path.{Path}
use Rattle.dsde_values.specs.Path.{root}
use Rattle.dsde_values.specs.When.{IsMoment}
use Rattle.dsde_language.specs.declared.ids.ModelId.{ModelId}
use Rattle.dsde_formalism.specs.declared.leaf.Leaf.{Leaf}
use Rattle.dsde_formalism.specs.System.{Ports}
use Rattle.dsde_formalism.specs.Leaf.{kind_of}
use Rattle.dsde_sound_runs.specs.given.system.Program.{system}
use Rattle.dsde_sound_runs.specs.given.system.Fitting.{FitsInputs}
use Rattle.dsde_sim_tree.specs.declared.event.Event.{Event}
use Rattle.dsde_sim_tree.specs.declared.fault.TurnEnd.{TurnEnd}
use Rattle.dsde_sim_tree.specs.declared.fault.TurnEnd.TheVariants as turn_end
use Rattle.dsde_sim_tree.specs.Told.{Told, told, ◌then◌}
use Rattle.dsde_sim_tree.specs.declared.sim.Net.{Net}
use Rattle.dsde_sim_tree.specs.declared.sim.Sim.{Sim}
use Rattle.dsde_sim_tree.specs.declared.sim.Sim.TheVariants as sim
use Rattle.dsde_sim_tree.specs.declared.sim.Sim.TheViews.{out-Net, out-Sim}
use Rattle.dsde_sim_tree.specs.Opened.{as_net, shape_in}
use Rattle.dsde_sim_tree.specs.Output.{by_port}
use Rattle.dsde_sim_tree.specs.Move.{boss_moves, ins_of}
use Rattle.dsde_sim_tree.specs.Tree.{args_of, entry_of, model_of}
use Rattle.dsde_sim_tree.specs.lemmas.Trees.{each_tree}
use Rattle.dsde_sound_runs.specs.given.sim_starting.Fitting.{FitsShape, FitsSpot, FitsTree}
use Rattle.dsde_sound_runs.specs.given.sim_starting.lemmas_Fits.{leaf-tree, net-kids, net-shape, net-tree}
use Rattle.dsde_sound_runs.specs.given.sim_starting.lemmas_Stood.{model-net}
use Rattle.dsde_sim_movers.specs.Deliveries.{Delivery, deliveries}
use Rattle.dsde_sim_movers.specs.lemmas.Events.{each-append, each-back, each-filter, each-front}
use Rattle.dsde_sim_movers.specs.Found.{IsFound}
use Rattle.dsde_sim_movers.specs.Movers.{Step, is_mover, leaf_at, leaf_in, move_each, move_one, moves, moves_in, path_behind, seat_behind}
use Rattle.dsde_sim_movers.specs.Parts.{part_at, with_part}
use Rattle.dsde_sim_movers.specs.Turns.{turn_movers}
use Rattle.dsde_sim_movers.specs.lemmas.Seats.{leaf-moves-leaf, out-Leaf, out-Net-of}
use Rattle.dsde_sim_movers.specs.lemmas.Spotting.{IsAlike, alike-with, spots-at, spots-with}
use Rattle.dsde_sim_movers.specs.Orders.{IsLawful, IsOrderOf}
use Rattle.dsde_sound_runs.proofs.Moving.{boss-moves, leaf-steps}
use Rattle.dsde_sound_runs.proofs.Opens.{args-Net}
use Rattle.dsde_sound_runs.proofs.Relied.{Laws}
use Rattle.dsde_sound_runs.proofs.Safe.{Safe, safe-then}
use Rattle.dsde_sound_runs.proofs.Starting.{IsHead, IsPart}
use Rattle.dsde_cli.proofs.LawComing.{Serves, tree-named}
use Rattle.dsde_cli.proofs.Relied.{Turns}

safe-by : {A B : Type 0} (P : A → Type 0) (Q : B → Type 0) (events : List Event) (end : Result A TurnEnd) (next : A → Told B) → Safe P end →
    ((value : A) → end ≡ Ok value → P value → Safe Q (next value).end) → Safe Q (let step : Told A = record { events = events; end = end } in step then next).end
safe-by P Q events (Ok value) next h step = step value refl h
safe-by P Q events (Err (turn_end.Fault path site kind place)) next h step = tt
safe-by P Q events (Err turn_end.Memory) next h step = absurd h

-- a step, and the next on what it came to
pub safe-at-end : {A B : Type 0} (P : A → Type 0) (Q : B → Type 0) (first : Told A) (next : A → Told B) → Safe P first.end →
    ((value : A) → first.end ≡ Ok value → P value → Safe Q (next value).end) → Safe Q (first then next).end
safe-at-end P Q first next h step = safe-by P Q first.events first.end next h step

module _ (model : Model) (laws : Laws model) (time : ℕ) (moment : IsMoment time) where
  -- a part like this one: of its model, with its arguments, and it fits
  abbrev pub AsPart : Sim → Sim × ℕ → Type 0
  AsPart own after = IsPart model (model_of own) (args_of own) after.0

  -- What comes to whoever has a seat fits it, if one has.
  abbrev pub FitsSeat : Option Leaf → Ports → Type 0
  FitsSeat found got = IfSome found (λ leaf. FitsInputs model leaf.model.0 got)

  abbrev Moved : Sim → Type 0
  Moved own = (is_boss : Bool) (path : Path) (got : Ports) (room : ℕ) → FitsTree model own → FitsSeat (leaf_in is_boss (out-Sim own)) got → Safe (AsPart own) (moves (system model) is_boss path time got own room).end

  itself : (own : Sim) → FitsTree model own → IsPart model (model_of own) (args_of own) own
  itself own fits = record { fits = fits; model_is = refl; args_is = refl }

  leaf-case : (leaf : Leaf) → Moved (sim.Leaf leaf)
  leaf-case leaf true path got room fits seat =
      subst (λ (step : Told (Sim × ℕ)). Safe (AsPart (sim.Leaf leaf)) step.end) (sym (ap (moves_in (system model) true path time got (sim.Leaf leaf) room) (out-Leaf leaf))) (itself (sim.Leaf leaf) fits)
  leaf-case leaf false path got room fits seat =
      let came : FitsInputs model leaf.model.0 got = subst (λ opened. FitsSeat (leaf_in false opened) got) (out-Leaf leaf) seat in
      subst (λ (step : Told (Sim × ℕ)). Safe (AsPart (sim.Leaf leaf)) step.end) (sym (leaf-moves-leaf (system model) path time got leaf room))
      (leaf-steps model laws time moment leaf path got room (leaf-tree model leaf fits) came)

  net-case : (net : Net) → Moved (sim.Net net)
  net-case net false path got room fits seat =
      subst (λ (step : Told (Sim × ℕ)). Safe (AsPart (sim.Net net)) step.end) (sym (ap (moves_in (system model) false path time got (sim.Net net) room) (out-Net-of net))) (itself (sim.Net net) fits)
  net-case net true path got room fits seat =
      let whole = out-Net net in
      let shape : FitsShape model (shape_in net) = net-shape model net (net-tree model net fits) in
      let head : IsHead model whole.model whole.args whole.boss = record { network = shape.links.network; args_fit = shape.args; fits = shape.boss; is = shape.boss_is } in
      let came : FitsInputs model whole.boss.model.0 got = subst (λ opened. FitsSeat (leaf_in true opened) got) (out-Net-of net) seat in
      subst (λ (step : Told (Sim × ℕ)). Safe (AsPart (sim.Net net)) step.end) (sym (ap (moves_in (system model) true path time got (sim.Net net) room) (out-Net-of net)))
      (safe-then (λ after. IsPart model whole.model whole.args (sim.Net after.0)) (AsPart (sim.Net net)) (boss_moves (system model) whole.model whole.args whole.boss whole.links whole.kids path time got room) as_net
      (boss-moves model laws time moment whole.model whole.args path whole.boss whole.links whole.kids (map entry_of whole.kids) (kind_of whole.boss time got) got room head
      (record { fit = net-kids model net (net-tree model net fits); are = refl }) shape.links came)
      (λ after is. record { fits = is.fits; model_is = is.model_is ∙ sym (model-net net); args_is = is.args_is ∙ sym (args-Net net) }))

  -- whoever has its seat in a part moves, or faults
  part-moves : (own : Sim) → Moved own
  part-moves = each_tree Moved leaf-case (λ net each. net-case net)

  -- a tree with a part like the one in its place
  with-part : (names : List Name) (part tree own : Sim) → FitsTree model tree → part_at names tree ≡ Some part → IsPart model (model_of part) (args_of part) own →
      IsPart model (model_of tree) (args_of tree) (with_part names own tree)
  with-part names part tree own fits there like =
      let alike : IsAlike own part = record { model = like.model_is; args = like.args_is } in
      let whole = alike-with names own part tree there alike in
      record {
        fits = record { all = spots-with (FitsSpot model) names own part tree fits.all there like.fits.all alike };
        model_is = whole.model;
        args_is = whole.args;
      }

  module _ (names : List Name) (step : Step) (tree : Sim) (room : ℕ) (fits : FitsTree model tree) where
    place-steps : (found : Option Sim) → part_at names tree ≡ found → ((part : Sim) → part_at names tree ≡ Some part → Safe (AsPart part) (step part room).end) →
        (let whole : Told (Sim × ℕ) = elim found [
          | Some part ↦ step part room then (λ after. told [] (with_part names after.0 tree, after.1))
          | None ↦ told [] (tree, room)
        ] in Safe (AsPart tree) whole.end)
    place-steps None is steps = itself tree fits
    place-steps (Some part) is steps =
        safe-then (AsPart part) (AsPart tree) (step part room) (λ after. told [] (with_part names after.0 tree, after.1)) (steps part is)
        (λ after like. with-part names part tree after.0 fits is like)

  -- whoever has its seat in a tree moves, or faults
  one-moves : (own : Delivery) (tree : Sim) (room : ℕ) → FitsTree model tree → FitsSeat (leaf_at (seat_behind root own.path) tree) own.ports → Safe (AsPart tree) (move_one (system model) root time own tree room).end
  one-moves own tree room fits seat =
      let place = seat_behind root own.path in
      let path = path_behind root place.names in
      place-steps place.names (moves (system model) place.is_boss path time own.ports) tree room fits (part_at place.names tree) refl
      (λ part there.
      part-moves part place.is_boss path own.ports room (record { all = spots-at (FitsSpot model) place.names part tree fits.all there })
      (subst (λ (found : Option Sim). FitsSeat (option_and_then (λ one. leaf_in place.is_boss (out-Sim one)) found) own.ports) there seat))

  -- What comes to each of those that move fits whoever has its seat when its turn comes.
  abbrev pub AreServed : List Delivery → Sim → ℕ → Type 0
  AreServed order tree room =
      (before later : List Delivery) (own : Delivery) (after : Sim) (left : ℕ) → order ≡ before ++ own ∷ later → (move_each (system model) root time before tree room).end ≡ Ok (after, left)
      → FitsSeat (leaf_at (seat_behind root own.path) after) own.ports

  served-later : (own : Delivery) (later : List Delivery) (tree : Sim) (room : ℕ) (after : Sim × ℕ) → AreServed (own ∷ later) tree room → (move_one (system model) root time own tree room).end ≡ Ok after → AreServed later after.0 after.1
  served-later own later tree room after served is before behind other now left split came =
      served (own ∷ before) behind other now left (ap (λ (list : List Delivery). own ∷ list) split)
      (ap (λ (end : Result (Sim × ℕ) TurnEnd). let step : Told (Sim × ℕ) = record { events = (move_one (system model) root time own tree room).events; end = end } in (step then (λ at. move_each (system model) root time before at.0 at.1)).end) is ∙ came)

  pub each-moves : (order : List Delivery) (tree now : Sim) (room : ℕ) → IsPart model (model_of tree) (args_of tree) now → AreServed order now room → Safe (AsPart tree) (move_each (system model) root time order now room).end
  each-moves [] tree now room like served = like
  each-moves (own ∷ later) tree now room like served =
      safe-at-end (AsPart now) (AsPart tree) (move_one (system model) root time own now room) (λ after. move_each (system model) root time later after.0 after.1)
      (one-moves own now room like.fits (served [] later own now room refl refl))
      (λ after is one.
      each-moves later tree after.0 after.1 (record { fits = one.fits; model_is = one.model_is ∙ like.model_is; args_is = one.args_is ∙ like.args_is }) (served-later own later now room after served is))

-- what holds of each of a list holds of each in another order
each-ordered : (P : Delivery → Type 0) (all order : List Delivery) → IsOrderOf all order → AllByRecursion P all → AllByRecursion P order
each-ordered P all [] is each = tt
each-ordered P all (own ∷ order) is each =
    let here : AllByRecursion P (is.0 ++ own ∷ is.1) = subst (AllByRecursion P) is.2 each in
    let behind = each-back P is.0 (own ∷ is.1) here in
    (behind.0, each-ordered P (is.0 ++ is.1) order is.3 (each-append P is.0 is.1 (each-front P is.0 (own ∷ is.1) here) behind.1))

each-gives : (P Q : Delivery → Type 0) (list : List Delivery) → AllByRecursion P list → AllByRecursion (λ own. P own → Q own) list → AllByRecursion Q list
each-gives P Q [] each gives = tt
each-gives P Q (own ∷ list) each gives = (gives.0 each.0, each-gives P Q list each.1 gives.1)

module _ (model : Model) (turns : Turns) (time : ℕ) (tree : Sim) (fits : FitsTree model tree) (items : List Item) where
  abbrev got : Ports
  got = by_port (ins_of (system model) tree) items

  abbrev HasSeat : Delivery → Type 0
  HasSeat own = IfSome (leaf_at (seat_behind root own.path) tree) (λ leaf. FitsInputs model leaf.model.0 own.ports)

  found-seat : (own : Delivery) → IsFound (system model) tree time got own → Serves model own → HasSeat own
  found-seat own found serves =
      let same : own.model ≡ found.leaf.model = ap (λ (one : Delivery). one.model) found.is in
      subst (λ (o : Option Leaf). IfSome o (λ leaf. FitsInputs model leaf.model.0 own.ports)) (sym found.there) (subst (λ (number : ModelId). FitsInputs model number.0 own.ports) same serves)

  found-seats : (list : List Delivery) → AllByRecursion (IsFound (system model) tree time got) list → AllByRecursion (λ own. Serves model own → HasSeat own) list
  found-seats [] found = tt
  found-seats (own ∷ list) found = (found-seat own found.0, found-seats list found.1)

  movers-seated : AllByRecursion (Serves model) (turn_movers (system model) tree time items) → AllByRecursion HasSeat (turn_movers (system model) tree time items)
  movers-seated serve =
      let all = deliveries (system model) tree root time got in
      each-gives (Serves model) HasSeat (turn_movers (system model) tree time items) serve
      (each-filter (λ own. Serves model own → HasSeat own) (is_mover tree root time) all (found-seats all (turns.found (system model) tree time items (tree-named model tree fits))))

  -- in a lawful order each has its seat when its turn comes
  pub are-served : (order : List Delivery) → IsOrderOf (turn_movers (system model) tree time items) order → IsLawful root order → AllByRecursion (Serves model) (turn_movers (system model) tree time items) →
      (room : ℕ) (before later : List Delivery) (own : Delivery) (after : Sim) (left : ℕ) → order ≡ before ++ own ∷ later → (move_each (system model) root time before tree room).end ≡ Ok (after, left) →
      IfSome (leaf_at (seat_behind root own.path) after) (λ leaf. FitsInputs model leaf.model.0 own.ports)
  are-served order is_order lawful serve room before later own after left is came =
      let movers = turn_movers (system model) tree time items in
      let all : AllByRecursion HasSeat (before ++ own ∷ later) = subst (AllByRecursion HasSeat) is (each-ordered HasSeat movers order is_order (movers-seated serve)) in
      let same = turns.wait (system model) tree after time items before later own room left (tree-named model tree fits) (subst (IsOrderOf movers) is is_order) (subst (IsLawful root) is lawful) came in
      subst (λ (o : Option Leaf). IfSome o (λ leaf. FitsInputs model leaf.model.0 own.ports)) (sym same) (each-back HasSeat before (own ∷ later) all).0
