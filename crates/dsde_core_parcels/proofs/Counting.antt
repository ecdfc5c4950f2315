-- How many inboxes there are.
use Rattle.std.proofs.Common.{◌==◌, ℕ, ◌+◌, ◌≤◌, Bool, true, false, List, [], ◌∷◌, length, refl, ap, arith, length-append}
use Rattle.dsde_values.specs.declared.value.Value.{Value}
use Rattle.dsde_routes_wiring.specs.given.structure.Gather.{Translation}
use Rattle.dsde_routes_wiring.specs.declared.row.Row.{Row}
use Rattle.dsde_routes_wiring.specs.Sets.{Rows}
use Rattle.dsde_core_parcels.specs.declared.inbox.Inbox.{Inbox}
use Rattle.dsde_core_parcels.specs.declared.parcel.Outlet.{Outlet}
use Rattle.dsde_core_parcels.specs.declared.parcel.Parcel.{Parcel}
use Rattle.dsde_core_parcels.specs.Counted.{CountsRows}
use Rattle.dsde_core_parcels.specs.Inboxes.{Lot, put_by, put_lot, put_lots}
use Rattle.dsde_core_parcels.specs.Parcels.{ArePushed, made_along, parcel_with, parcels_of}

-- a parcel a row at most
one-parcel : (row : Row) (values : List Value) → length (parcel_with row values) ≤ 1
one-parcel row [] = omega arith
one-parcel row (value ∷ values) = omega arith

parcels-few : (gives : Translation) (values : List Value) (rows : List Row) → length (parcels_of gives values rows) ≤ length rows
parcels-few gives values [] = omega arith
parcels-few gives values (row ∷ rows) =
    let joined = length-append (parcel_with row (made_along gives values row)) (parcels_of gives values rows) in
    let one = one-parcel row (made_along gives values row) in
    let rest = parcels-few gives values rows in
    omega (arith, joined, one, rest)

pub pushed-few : (table : Rows) (gives : Translation) (outlets : List Outlet) (parcels : List Parcel) → ArePushed table gives outlets parcels → (rows : ℕ) × CountsRows table outlets rows × (length parcels ≤ rows)
pushed-few table gives [] parcels none = (0, refl, (let same = ap length none in omega (arith, same)))
pushed-few table gives (outlet ∷ outlets) parcels pushed =
    let rest = pushed-few table gives outlets pushed.1 pushed.4 in
    let joined = length-append (parcels_of gives outlet.values pushed.0) pushed.1 in
    let here = parcels-few gives outlet.values pushed.0 in
    let same = ap length pushed.3 in
    (length pushed.0 + rest.0, (pushed.0, rest.0, pushed.2, refl, rest.1), (let less = rest.2 in omega (arith, joined, here, same, less)))

-- an inbox a lot at most
by-few : (is_same : Bool) (inbox : Inbox) (lot : Lot) → length (put_by is_same inbox lot) ≤ 2
by-few true inbox lot = omega arith
by-few false inbox lot = omega arith

lot-few : (inboxes : List Inbox) (lot : Lot) → length (put_lot inboxes lot) ≤ length inboxes + 1
lot-few [] lot = omega arith
lot-few (inbox ∷ []) lot = let two = by-few (inbox.target.birth == lot.target.birth) inbox lot in omega (arith, two)
lot-few (inbox ∷ later ∷ inboxes) lot = let rest = lot-few (later ∷ inboxes) lot in omega (arith, rest)

pub lots-few : (inboxes : List Inbox) (lots : List Lot) → length (put_lots inboxes lots) ≤ length inboxes + length lots
lots-few inboxes [] = omega arith
lots-few inboxes (lot ∷ lots) =
    let one = lot-few inboxes lot in
    let rest = lots-few (put_lot inboxes lot) lots in
    omega (arith, one, rest)
