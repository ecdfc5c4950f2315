-- Who moves in a drawn order has its seat when its turn comes.
use Rattle.std.proofs.Common.{◌≡◌, ◌∙◌, ℕ, Bool, true, false, List, [], ◌∷◌, ◌++◌, filter, Option, Some, None, IfSome, Ok, sym, ap, subst}
use Rattle.std.specs.Prelude.{if◌then◌else◌}
use Rattle.std.specs.List.{AllByRecursion}
use Rattle.dsde_syntax.specs.declared.decl.Model.{Model}
use Rattle.dsde_values.specs.declared.arrival.Item.{Item}
use Rattle.dsde_values.specs.declared.name.Name.{Name}
use Rattle.dsde_values.specs.declared.path.Path.{Path}
use Rattle.dsde_values.specs.Path.{root}
use Rattle.dsde_language.specs.declared.ids.ModelId.{ModelId}
use Rattle.dsde_sim_tree.specs.given.formalism.leaf_Leaf.{Leaf}
use Rattle.dsde_sim_tree.specs.given.formalism.System.{Ports, System}
use Rattle.dsde_run.specs.given.system.Fitting.{FitsInputs}
use Rattle.dsde_sim_tree.specs.declared.sim.Sim.{Sim}
use Rattle.dsde_sim_tree.specs.Output.{by_port}
use Rattle.dsde_sim_tree.specs.Move.{ins_of}
use Rattle.dsde_sim_movers.specs.Deliveries.{Delivery, deliveries}
use Rattle.dsde_sim_movers.specs.Found.{IsFound}
use Rattle.dsde_sim_movers.specs.Movers.{is_mover, leaf_at, move_each, move_one, moves, path_behind, seat_behind, step_at}
use Rattle.dsde_sim_movers.specs.Turns.{turn_movers}
use Rattle.dsde_sim_movers.specs.Orders.{IsDrawn, IsLawful, IsOrderOf}
use Rattle.dsde_order.specs.Seating.{FitsSeat}
use Rattle.dsde_order.specs.Walking.{FitsDelivery}
use Rattle.dsde_run_free.specs.Drawn.{AreSeated, HasSeat}

-- what holds of each mover holds of each in a drawn order
module _ (P : Delivery → Type 0) where
  at-middle : (before : List Delivery) (own : Delivery) (after : List Delivery) → AllByRecursion P (before ++ own ∷ after) → P own
  at-middle [] own after all = all.0
  at-middle (first ∷ before) own after all = at-middle before own after all.1

  without : (before : List Delivery) (own : Delivery) (after : List Delivery) → AllByRecursion P (before ++ own ∷ after) → AllByRecursion P (before ++ after)
  without [] own after all = all.1
  without (first ∷ before) own after all = (all.0, without before own after all.1)

  pub each-drawn : (path : Path) (all order : List Delivery) → IsDrawn path all order → AllByRecursion P all → AllByRecursion P order
  each-drawn path all [] drawn each = tt
  each-drawn path all (own ∷ order) drawn each =
      let here : AllByRecursion P (drawn.0 ++ own ∷ drawn.1) = subst (AllByRecursion P) drawn.2 each in
      (at-middle drawn.0 own drawn.1 here, each-drawn path (drawn.0 ++ drawn.1) order drawn.4 (without drawn.0 own drawn.1 here))

  kept-by : (own : Delivery) (kept : List Delivery) (here : Bool) → P own → AllByRecursion P kept → AllByRecursion P (if here then own ∷ kept else kept)
  kept-by own kept true holds all = (holds, all)
  kept-by own kept false holds all = all

  each-kept : (test : Delivery → Bool) (list : List Delivery) → AllByRecursion P list → AllByRecursion P (filter test list)
  each-kept test [] all = tt
  each-kept test (own ∷ list) all = kept-by own (filter test list) (test own) all.0 (each-kept test list all.1)

seat-same : (found : Option Leaf) (leaf : Leaf) (own : Delivery) → found ≡ Some leaf → own.model ≡ leaf.model → IfSome found (λ one. one.model ≡ own.model)
seat-same found leaf own is same = subst (λ (o : Option Leaf). IfSome o (λ one. one.model ≡ own.model)) (sym is) (sym same)

-- as they are before the turn
module _ (system : System) (tree : Sim) (time : ℕ) (items : List Item) where
  abbrev got : Ports
  got = by_port (ins_of system tree) items

  found-seats : (list : List Delivery) → AllByRecursion (IsFound system tree time got) list → AllByRecursion (HasSeat tree) list
  found-seats [] all = tt
  found-seats (own ∷ list) all = (
    seat-same (leaf_at (seat_behind root own.path) tree) (IsFound.leaf all.0) own (IsFound.there all.0) (ap (λ (one : Delivery). one.model) (IsFound.is all.0)),
    found-seats list all.1,
  )

  movers-seated : AllByRecursion (IsFound system tree time got) (deliveries system tree root time got) → AllByRecursion (HasSeat tree) (turn_movers system tree time items)
  movers-seated found = each-kept (HasSeat tree) (is_mover tree root time) (deliveries system tree root time got) (found-seats (deliveries system tree root time got) found)

  -- as they are when their turns come
  abbrev pub MoversWait : Type 0
  MoversWait = (after : Sim) (before later : List Delivery) (own : Delivery) (room left : ℕ) →
      IsOrderOf (turn_movers system tree time items) (before ++ own ∷ later) → IsLawful root (before ++ own ∷ later) →
      (move_each system root time before tree room).end ≡ Ok (after, left) →
      leaf_at (seat_behind root own.path) after ≡ leaf_at (seat_behind root own.path) tree

  pub seated : MoversWait → AllByRecursion (IsFound system tree time got) (deliveries system tree root time got) → (order : List Delivery) → IsDrawn root (turn_movers system tree time items) order →
      IsOrderOf (turn_movers system tree time items) order → IsLawful root order → (room : ℕ) → AreSeated system time order tree room
  seated wait found order drawn is_order lawful room before later own after left is end =
      let all : AllByRecursion (HasSeat tree) (before ++ own ∷ later) =
      subst (AllByRecursion (HasSeat tree)) is (each-drawn (HasSeat tree) root (turn_movers system tree time items) order drawn (movers-seated found)) in
      let same = wait after before later own room left (subst (IsOrderOf (turn_movers system tree time items)) is is_order) (subst (IsLawful root) is lawful) end in
      subst (λ (o : Option Leaf). IfSome o (λ one. one.model ≡ own.model)) (sym same) (at-middle (HasSeat tree) before own later all)

-- what comes to a mover fits whoever has its seat
fits-found : (model : Model) (own : Delivery) (found : Option Leaf) → IfSome found (λ one. one.model ≡ own.model) → FitsInputs model own.model.0 own.ports → IfSome found (λ one. FitsInputs model one.model.0 own.ports)
fits-found model own None same fits = tt
fits-found model own (Some leaf) same fits = subst (λ (number : ModelId). FitsInputs model number.0 own.ports) (sym same) fits

module _ (own : Delivery) (names : List Name) (is_boss : Bool) (names_is : names ≡ (seat_behind root own.path).names) (boss_is : is_boss ≡ (seat_behind root own.path).is_boss) where
  pub seat-fits : (model : Model) (tree : Sim) → HasSeat tree own → FitsDelivery model own → FitsSeat model names is_boss own.ports tree
  seat-fits model tree seat fits =
      subst (λ (n : List Name). FitsSeat model n is_boss own.ports tree) (sym names_is)
      (subst (λ (b : Bool). FitsSeat model (seat_behind root own.path).names b own.ports tree) (sym boss_is)
      (fits-found model own (leaf_at (seat_behind root own.path) tree) seat fits.fits))

  pub one-moves : (system : System) (time : ℕ) (tree : Sim) (room : ℕ) (part : Path) → part ≡ path_behind root names →
      step_at names (moves system is_boss part time own.ports) tree room ≡ move_one system root time own tree room
  one-moves system time tree room part part_is =
      ap (λ (p : Path). step_at names (moves system is_boss p time own.ports) tree room) part_is
      ∙ ap (λ (b : Bool). step_at names (moves system b (path_behind root names) time own.ports) tree room) boss_is
      ∙ ap (λ (n : List Name). step_at n (moves system (seat_behind root own.path).is_boss (path_behind root n) time own.ports) tree room) names_is
