-- Who is due where a component is the whole model is the component.
use Rattle.std.proofs.Common.{◌≡◌, ℕ, ◌≤◌, ◌||◌, Bool, true, false, if◌then◌else◌, List, [], ◌∷◌, length, map, Option, Some, None, IsNone, IsSome, Less, Equal, refl, sym, ap, subst, ◌∙◌, inl, inr, arith}
use Rattle.std.proofs.lemmas.List.Elements.{All-from_recursion}
use Rattle.std.proofs.lemmas.Map.Keys.{sorted_head}
use Rattle.std.specs.Cmp.{tied_itself, IsTotalOrder}
use Rattle.std.specs.List.{All}
use Rattle.dsde_bank.specs.declared.handle.Handle.{Handle}
use Rattle.dsde_syntax.specs.declared.decl.Model.{Model}
use Rattle.dsde_values.specs.declared.arrival.Item.{Item}
use Rattle.dsde_values.specs.Path.{path_cmp, root}
use Rattle.dsde_sim_tree.specs.given.formalism.leaf_Leaf.{Leaf}
use Rattle.dsde_sim_tree.specs.given.formalism.Leaf.{has_come, is_due}
use Rattle.dsde_sim_tree.specs.given.formalism.System.{Ports}
use Rattle.dsde_grove.specs.Grove.{value_of}
use Rattle.dsde_sim_tree.specs.declared.sim.Sim.TheVariants as sim
use Rattle.dsde_sim_tree.specs.Move.{ins_of}
use Rattle.dsde_sim_tree.specs.Output.{by_port}
use Rattle.dsde_sim_working.specs.given.system.Program.{system}
use Rattle.dsde_core_parcels.specs.given.routes_wiring.wiring_Wiring.{Wiring}
use Rattle.dsde_core_parcels.specs.given.routes_wiring.Sets.{Rows}
use Rattle.dsde_core_parcels.specs.given.core_flat.Grafts.{path_at}
use Rattle.dsde_core_parcels.specs.Counted.{CountsRows}
use Rattle.dsde_core_parcels.specs.Outlets.{turn_outlets}
use Rattle.dsde_core_parcels.specs.given.routes_pushing.lemmas_Lists.{all-from, among-from, contains-from, Among}
use Rattle.dsde_core_parcels.specs.given.core_flat.spot_Spot.{Spot}
use Rattle.dsde_core_parcels.specs.given.core_flat.spot_Spot_TheVariants as variant
use Rattle.dsde_core_parcels.specs.given.core_flat.Places.{place, Place}
use Rattle.dsde_core_parcels.specs.given.core_flat.lemmas_Fitting.{tree-named}
use Rattle.dsde_core_parcels.specs.given.core_flat.Scheduled.{held_leaf}
use Rattle.dsde_core_parcels.specs.given.core_flat.due_Due.{Due}
use Rattle.dsde_core_parcels.specs.given.core_flat.Due as due
use Rattle.dsde_core_parcels.specs.given.core_flat.Due.{AreDue, IsDue}
use Rattle.dsde_core_parcels.specs.lemmas.Living.{living, place-path}
use Rattle.dsde_core_parcels.specs.given.core_moves.flat_Flat.{Flat}
use Rattle.dsde_core_parcels.specs.given.core_moves.flat_Mover.{Mover}
use Rattle.dsde_core_parcels.specs.given.core_moves.Flat.{rows_of, tree_of, Stands}
use Rattle.dsde_core_parcels.specs.lemmas.Dues.{due-held, find-due}
use Rattle.dsde_core_parcels.specs.given.core_moves.Movers.{handle_of, Wait}
use Rattle.dsde_core_outputs.specs.Alone.{one_called, IsAlone}
use Rattle.dsde_core_outputs.specs.Rows.{HasRows}
use Rattle.dsde_core_outputs.proofs.AloneCalling.{due-called}
use Rattle.dsde_core_outputs.proofs.Paying.{none-counted}
use Rattle.dsde_core_outputs.proofs.Whole.{lives, stands-alone, tree-fits}

no-wiring : (wiring : Option Wiring) → IsNone wiring → wiring ≡ None
no-wiring None none = refl
no-wiring (Some wiring) none = absurd (let e : true ≡ false = none in cc)

one-leaf : (one other : Leaf) → (let held : Option Spot = Some (variant.Leaf one) in held) ≡ Some (variant.Leaf other) → one ≡ other
one-leaf one other is = cc

module _ (model : Model) (flat : Flat) (stands : Stands model flat) (leaf : Leaf) (alone : IsAlone flat leaf) where
  first : (at : Place) → Among at (place flat.root root false ∷ []) → at.handle ≡ flat.root
  first at (inl same) = ap (λ (own : Place). own.handle) same
  first at (inr none) = absurd none

  -- whoever lives is the component
  only : (handle : Handle) (one : Leaf) → value_of flat.grove handle ≡ Some (variant.Leaf one) → (handle ≡ flat.root) × (one ≡ leaf)
  only handle one held =
      let its = living flat.grove flat.root None (sim.Leaf leaf) (stands-alone flat leaf alone model stands) (tree-named model (sim.Leaf leaf) (tree-fits flat leaf alone model stands)) handle one held in
      let here : handle ≡ flat.root = sym its.is ∙ first its.at its.among in (
        here,
        one-leaf one leaf (sym held ∙ ap (value_of flat.grove) here ∙ alone.held),
      )

  -- who is due lives under the root's handle
  due-here : (time : ℕ) (dues : List Due) → AreDue flat.grove time dues → (own : Due) → Among own dues → (own.path ≡ path_at flat.grove flat.root) × (is_due leaf time ≡ true)
  due-here time dues are own among =
      let is = (are.each own).0 (contains-from dues own among) in
      let lives = due-held flat.grove time own.handle is.next in
      let its = only own.handle lives.0 lives.1 in
      (is.path ∙ ap (path_at flat.grove) its.0, ap (λ (one : Leaf). is_due one time) (sym its.1) ∙ lives.2)

  -- and has the root's path
  path-here : (time : ℕ) (own : Due) → IsDue flat.grove time own → own.path ≡ root
  path-here time own is =
      let here : root ≡ path_at flat.grove flat.root = place-path flat.grove (place flat.root root false) (stands-alone flat leaf alone model stands).live.0 in
      let lives = due-held flat.grove time own.handle is.next in
      is.path ∙ ap (path_at flat.grove) (only own.handle lives.0 lives.1).0 ∙ sym here

  pub paths : (time : ℕ) (dues : List Due) → AreDue flat.grove time dues → All (λ (own : Due). own.path ≡ root) dues
  paths time dues are =
      let here : root ≡ path_at flat.grove flat.root = place-path flat.grove (place flat.root root false) (stands-alone flat leaf alone model stands).live.0 in
      All-from_recursion (λ (own : Due). own.path ≡ root) dues (all-from (λ (own : Due). own.path ≡ root) dues (λ own among. (due-here time dues are own among).0 ∙ sym here))

  many-by : (time : ℕ) (got : Ports) → is_due leaf time ≡ true → length (one_called leaf flat.root root time got) ≡ 1
  many-by time got now =
      ap (λ (called : Bool). let movers : List Mover = if called then record { handle = flat.root; path = root; model = leaf.model; got = got } ∷ [] else [] in length movers)
      (ap (λ (b : Bool). b || has_come got) now)

  -- it alone is due
  pub many : IsTotalOrder path_cmp → (time : ℕ) (got : Ports) (dues : List Due) → AreDue flat.grove time dues → length dues ≤ length (one_called leaf flat.root root time got)
  many total time got [] are = omega arith
  many total time got (own ∷ []) are = let one = many-by time got (due-here time (own ∷ []) are own (inl refl)).1 in omega (arith, one)
  many total time got (own ∷ other ∷ dues) are =
      let here = (due-here time (own ∷ other ∷ dues) are own (inl refl)).0 in
      let there = (due-here time (own ∷ other ∷ dues) are other (inr (inl refl))).0 in
      let less : path_cmp own.path other.path ≡ Less = (sorted_head due.due_cmp own (other ∷ dues) are.order).0 in
      absurd (let e : Equal ≡ Less = sym (tied_itself total own.path) ∙ ap (path_cmp own.path) (here ∙ sym there) ∙ less in cc)

  -- and no rows go from it
  pub rows : (time : ℕ) (items : List Item) (dues : List Due) → AreDue flat.grove time dues → HasRows model flat time items 0
  rows time items dues are =
      let outlets = turn_outlets (system model) time flat.grove flat.root (by_port (ins_of (system model) (tree_of flat)) items) dues in
      record { dues = dues; due = are; all = subst (λ (table : Rows). CountsRows table outlets 0) (sym (stands.rows ∙ ap rows_of none-wired)) (none-counted outlets) }
    where
      none-wired : flat.wiring ≡ None
      none-wired = no-wiring flat.wiring alone.none

  pub waits : (time : ℕ) (got : Ports) (dues : List Due) → AreDue flat.grove time dues → Wait dues (one_called leaf flat.root root time got)
  waits time got dues are handle among =
      let found = find-due handle dues (among-from (map due.handle_of dues) handle among) in
      let next = ((are.each found.0).0 (contains-from dues found.0 found.1)).next in
      let lives = due-held flat.grove time found.0.handle next in
      let its = only found.0.handle lives.0 lives.1 in
      let now : is_due leaf time ≡ true = ap (λ (own : Leaf). is_due own time) (sym its.1) ∙ lives.2 in
      contains-from (map handle_of (one_called leaf flat.root root time got)) handle
      (subst (λ (own : Handle). Among own (map handle_of (one_called leaf flat.root root time got))) (sym (found.2 ∙ its.0)) (due-called leaf flat.root root time got now))

-- where nothing is wired whoever is due has the root's path
pub due-path : (model : Model) (flat : Flat) → Stands model flat → IsNone flat.wiring → (time : ℕ) (own : Due) → IsDue flat.grove time own → own.path ≡ root
due-path model flat stands none time own is =
    let found = found-leaf (value_of flat.grove flat.root) (lives model flat stands none) in
    path-here model flat stands found.0 (record { none = none; held = found.1 }) time own is
  where
    found-leaf : (spot : Option Spot) → IsSome (held_leaf spot) → (leaf : Leaf) × (spot ≡ Some (variant.Leaf leaf))
    found-leaf None some = absurd (let e : false ≡ true = some in cc)
    found-leaf (Some (variant.Leaf leaf)) some = (leaf, refl)
    found-leaf (Some (variant.Net model args)) some = absurd (let e : false ≡ true = some in cc)
