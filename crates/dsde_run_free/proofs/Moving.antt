-- How far the moves of a turn have come.
use Rattle.std.proofs.Common.{◌≡◌, ◌∙◌, ℕ, ◌+◌, ◌<◌, ◌≤◌, ◌^◌, List, [], ◌∷◌, ◌++◌, length, Result, Ok, Err, refl, sym, ap, subst, arith, append_assoc}
use Rattle.std.specs.List.{AllByRecursion}
use Rattle.dsde_syntax.specs.declared.decl.Model.{Model}
use Rattle.dsde_values.specs.declared.path.Path.{Path}
use Rattle.dsde_values.specs.Path.{root}
use Rattle.dsde_sim_tree.specs.given.formalism.System.{System}
use Rattle.dsde_sim_tree.specs.declared.event.Event.{Event}
use Rattle.dsde_sim_tree.specs.declared.fault.TurnEnd.{TurnEnd}
use Rattle.dsde_sim_tree.specs.Told.{Told, Tells, ◌then◌}
use Rattle.dsde_run.specs.given.sim_telling.lemmas_GoingOn.{GoesOn, goes-begin, goes-end, goes-step, goes-stops}
use Rattle.dsde_sim_tree.specs.declared.sim.Sim.{Sim}
use Rattle.dsde_sim_tree.specs.Tree.{model_of, parts}
use Rattle.dsde_order.specs.given.sim_moving.Fitting.{FitsTree}
use Rattle.dsde_sim_movers.specs.Deliveries.{Delivery}
use Rattle.dsde_sim_movers.specs.Movers.{move_each, move_one}
use Rattle.dsde_sim_movers.specs.lemmas.Steps.{same-ok, split-then}
use Rattle.dsde_order.specs.Walking.{FitsDelivery}
use Rattle.dsde_run_free.specs.Drawn.{AreSeated, HasSeat}

-- movers one after another, and one more
each-one : (system : System) (time : ℕ) (done : List Delivery) (own : Delivery) (tree : Sim) (room : ℕ) (mid after : Sim × ℕ) →
    (move_each system root time done tree room).end ≡ Ok mid → (move_one system root time own mid.0 mid.1).end ≡ Ok after → (move_each system root time (done ++ own ∷ []) tree room).end ≡ Ok after
each-one system time [] own tree room mid after is one =
    let same : (let start : Sim × ℕ = (tree, room) in start ≡ mid) = same-ok _ mid is in
    let first : (move_one system root time own tree room).end ≡ Ok after = subst (λ (at : Sim × ℕ). (move_one system root time own at.0 at.1).end ≡ Ok after) (sym same) one in
    ap (λ (end : Result (Sim × ℕ) TurnEnd). let step : Told (Sim × ℕ) = record { events = (move_one system root time own tree room).events; end = end } in (step then (λ at. move_each system root time [] at.0 at.1)).end) first
each-one system time (first ∷ done) own tree room mid after is one =
    let step = move_one system root time first tree room in
    let split = split-then step.events step.end (λ at. move_each system root time done at.0 at.1) mid is in
    let rest = each-one system time done own split.0.0 split.0.1 mid after split.2 one in
    ap (λ (end : Result (Sim × ℕ) TurnEnd). let one : Told (Sim × ℕ) = record { events = step.events; end = end } in (one then (λ at. move_each system root time (done ++ own ∷ []) at.0 at.1)).end) split.1
    ∙ rest

-- some have moved, and the others are to
pub record Gone (model : Model) (system : System) (time : ℕ) (order : List Delivery) (tree : Sim) (room : ℕ) (old : List Event) (later : List Delivery) (now : Sim) (left : ℕ) (new : List Event) : Type 0 where
  pub goes : GoesOn (move_each system root time order tree room) (move_each system root time later now left) old new
  pub fits : FitsTree model now
  pub model_is : model_of now ≡ model_of tree
  pub fit : AllByRecursion (FitsDelivery model) later
  pub done : List Delivery
  pub split : order ≡ done ++ later
  pub came : (move_each system root time done tree room).end ≡ Ok (now, left)

pub gone-none : (model : Model) (system : System) (time : ℕ) (order : List Delivery) (tree : Sim) (room : ℕ) (old : List Event) → FitsTree model tree → AllByRecursion (FitsDelivery model) order →
    Gone model system time order tree room old order tree room old
gone-none model system time order tree room old fits fit = record {
  goes = goes-begin (move_each system root time order tree room) old;
  fits = fits;
  model_is = refl;
  fit = fit;
  done = [];
  split = refl;
  came = refl;
}

-- no mover is left
pub none-later : (items : List Delivery) (count : ℕ) → count ≡ length items → count ≡ 0 → items ≡ []
none-later [] count is none = refl
none-later (own ∷ items) count is none = absurd (omega (arith, is, none))

-- what is kept of parts and room
abbrev pub RoomIsKept : Type 0
RoomIsKept = (system : System) (tree after : Sim) (path : Path) (time : ℕ) (order : List Delivery) (room left : ℕ) →
    (move_each system path time order tree room).end ≡ Ok (after, left) → parts after + left ≤ parts tree + room

module _ (model : Model) (system : System) (time : ℕ) (order : List Delivery) (tree : Sim) (room : ℕ) (old : List Event) (items : List Delivery) (now : Sim) (left : ℕ) (new : List Event)
    (here : Gone model system time order tree room old items now left new) where
  pub few-left : RoomIsKept → parts tree + room < 2 ^ 64 → parts now + left < 2 ^ 64
  few-left kept few = let less = kept system tree now root time here.done room left here.came in omega (arith, less, few)

  module _ (own : Delivery) (later : List Delivery) (is : items ≡ own ∷ later) where
    fit-here : AllByRecursion (FitsDelivery model) (own ∷ later)
    fit-here = subst (AllByRecursion (FitsDelivery model)) is here.fit

    pub next-fits : FitsDelivery model own
    next-fits = fit-here.0

    split-here : order ≡ here.done ++ own ∷ later
    split-here = here.split ∙ ap (λ (list : List Delivery). here.done ++ list) is

    pub next-seat : AreSeated system time order tree room → HasSeat now own
    next-seat seats = seats here.done later own now left split-here here.came

    next-goes : GoesOn (move_each system root time order tree room) (move_one system root time own now left then (λ after. move_each system root time later after.0 after.1)) old new
    next-goes = subst (λ (list : List Delivery). GoesOn (move_each system root time order tree room) (move_each system root time list now left) old new) is here.goes

    pub next-stops : (end : TurnEnd) (more : List Event) → Tells (move_one system root time own now left) new more (Err end) → Tells (move_each system root time order tree room) old more (Err end)
    next-stops end more tells =
        goes-stops (move_each system root time order tree room) (move_one system root time own now left) (λ after. move_each system root time later after.0 after.1) old new more end next-goes tells

    pub next-gone : (after : Sim) (rest : ℕ) (more : List Event) → Tells (move_one system root time own now left) new more (Ok (after, rest)) → FitsTree model after → model_of after ≡ model_of now →
        Gone model system time order tree room old later after rest more
    next-gone after rest more tells fits same = record {
      goes = goes-step (move_each system root time order tree room) (move_one system root time own now left) (λ at. move_each system root time later at.0 at.1) old new more (after, rest) next-goes tells.0 tells.1;
      fits = fits;
      model_is = same ∙ here.model_is;
      fit = fit-here.1;
      done = here.done ++ own ∷ [];
      split = split-here ∙ sym (append_assoc here.done (own ∷ []) later);
      came = each-one system time here.done own tree room (now, left) (after, rest) here.came tells.1;
    }

  pub all-gone : items ≡ [] → Tells (move_each system root time order tree room) old new (Ok (now, left))
  all-gone none = goes-end (move_each system root time order tree room) (now, left) old new
      (subst (λ (list : List Delivery). GoesOn (move_each system root time order tree room) (move_each system root time list now left) old new) none here.goes)
