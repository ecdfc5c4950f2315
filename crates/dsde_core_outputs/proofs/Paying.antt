-- How many who are due, and how many rows, a turn's looks are paid by.
use Rattle.std.proofs.Common.{◌≡◌, ℕ, ◌+◌, ◌*◌, ◌≤◌, false, true, List, [], ◌∷◌, ◌++◌, length, map, IsPermutation, Result, Ok, Err, IfOk, OnOk, refl, sym, ◌∙◌, ap, arith, length-append}
use Rattle.std.specs.FinSet as set
use Rattle.std.proofs.lemmas.List.{length-map}
use Rattle.std.proofs.lemmas.List.Sorted.{length_permutation}
use Rattle.dsde_syntax.specs.declared.decl.Model.{Model}
use Rattle.dsde_values.specs.declared.arrival.Item.{Item}
use Rattle.dsde_sim_tree.specs.given.formalism.System.{System}
use Rattle.dsde_sim_tree.specs.declared.fault.TurnEnd.{TurnEnd}
use Rattle.dsde_grove.specs.Grove.{Grove}
use Rattle.dsde_queue.specs.Queue.{Queue}
use Rattle.dsde_core_parcels.specs.given.routes_wiring.Sets.{row_cmp}
use Rattle.dsde_core_parcels.specs.given.core_flat.spot_Spot.{Spot}
use Rattle.dsde_core_parcels.specs.given.core_flat.due_Due.{Due}
use Rattle.dsde_core_parcels.specs.given.core_moves.flat_Flat.{Flat}
use Rattle.dsde_core_parcels.specs.given.core_moves.flat_Mover.{Mover}
use Rattle.dsde_core_parcels.specs.given.core_moves.phase_Phase.{Phase}
use Rattle.dsde_core_parcels.specs.given.core_moves.Movers.{list_of, with_queue}
use Rattle.dsde_core_parcels.specs.declared.inbox.Inbox.{Inbox}
use Rattle.dsde_core_parcels.specs.declared.parcel.Outlet.{Outlet}
use Rattle.dsde_core_parcels.specs.Calling.{due_movers, emptied, left_by}
use Rattle.dsde_core_parcels.specs.Counted.{CountsRows}
use Rattle.dsde_core_parcels.specs.Parcels.{AreRowsFrom}
use Rattle.dsde_core_outputs.specs.Rows.{HasRows}

-- a mover for each who is due
due-many : (own : System) (grove : Grove Spot) (dues : List Due) (boxes : List Inbox) → length (due_movers own grove dues boxes) ≡ length dues
due-many own grove [] boxes = refl
due-many own grove (due ∷ dues) boxes = let rest = due-many own grove dues (map (emptied due.handle) boxes) in omega (arith, rest)

-- who is due is no more than those who are called
pub called-many : (own : System) (grove : Grove Spot) (dues : List Due) (boxes : List Inbox) (due told all : List Mover) → due ≡ due_movers own grove dues boxes → IsPermutation (due ++ told) all → length dues ≤ length all
called-many own grove dues boxes due told all is same =
    let count = due-many own grove dues boxes in
    let long = ap length is in
    let joined = length-append due told in
    let many = length_permutation (due ++ told) all same in
    omega (arith, count, long, joined, many)

-- inboxes from which some is taken are as many
pub left-many : (dues : List Due) (boxes : List Inbox) → length (left_by dues boxes) ≡ length boxes
left-many [] boxes = refl
left-many (due ∷ dues) boxes =
    let rest = left-many dues (map (emptied due.handle) boxes) in
    let one = length-map boxes (emptied due.handle) in
    omega (arith, rest, one)

-- no rows go from a port where there are none
none-from : (outlet : Outlet) → AreRowsFrom (set.empty {R = row_cmp}) outlet []
none-from outlet = record {
  each = λ row. (
    λ wrong. absurd (let less = wrong.1 in omega (arith, less)),
    λ there. absurd (let e : false ≡ true = sym (set.contains-empty row_cmp row) ∙ there.0 in cc),
  );
  once = tt;
}

pub none-counted : (outlets : List Outlet) → CountsRows (set.empty {R = row_cmp}) outlets 0
none-counted [] = refl
none-counted (outlet ∷ outlets) = ([], 0, none-from outlet, refl, none-counted outlets)

-- another schedule changes no rows
pub rows-with : (model : Model) (flat : Flat) (queue : Queue) (time : ℕ) (items : List Item) (rows : ℕ) → HasRows model (with_queue flat queue) time items rows → HasRows model flat time items rows
rows-with model flat queue time items rows has = record { dues = has.dues; due = has.due; all = has.all }

-- what a turn's movers come to, with those who are due taken out of the schedule
abbrev Paid : Model → Flat → ℕ → List Item → ℕ → ℕ → ℕ → ℕ → Result Phase TurnEnd → Type 0
Paid model flat time items before pairs after left result =
    IfOk result (λ phase. (rows : ℕ) × HasRows model flat time items rows × (after + 4 * left ≤ before + 2 + 4 * pairs + 69 * length (list_of phase.movers) + 67 * rows))

pub net-paid : (model : Model) (flat : Flat) (queue : Queue) (time : ℕ) (items : List Item) (dues before mid after pairs left : ℕ) (result : Result Phase TurnEnd) → mid + 4 * left ≤ before + 4 * pairs + 65 * dues →
    IfOk result (λ phase. dues ≤ length (list_of phase.movers)) → OnOk result ((rows : ℕ) × HasRows model (with_queue flat queue) time items rows × (after ≤ mid + 2 + 4 * dues + 67 * rows)) → Paid model flat time items before pairs after left result
net-paid model flat queue time items dues before mid after pairs left (Err end) taken many counted = tt
net-paid model flat queue time items dues before mid after pairs left (Ok phase) taken many counted =
    (counted.0, rows-with model flat queue time items counted.0 counted.1, (let less = counted.2 in omega (arith, taken, many, less)))

pub lone-paid : (model : Model) (flat : Flat) (queue : Queue) (time : ℕ) (items : List Item) (dues before mid after pairs left : ℕ) (result : Result Phase TurnEnd) → mid + 4 * left ≤ before + 4 * pairs + 65 * dues →
    IfOk result (λ phase. dues ≤ length (list_of phase.movers)) → after ≤ mid + 2 → OnOk result (HasRows model (with_queue flat queue) time items 0) → Paid model flat time items before pairs after left result
lone-paid model flat queue time items dues before mid after pairs left (Err end) taken many few rows = tt
lone-paid model flat queue time items dues before mid after pairs left (Ok phase) taken many few rows = (0, rows-with model flat queue time items 0 rows, omega (arith, taken, many, few))
