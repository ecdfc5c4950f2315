-- Parcels target by target.
use Rattle.std.specs.Prelude.{ℕ, Bool, ◌==◌, if◌then◌else◌, List, [], ◌∷◌, ◌++◌, map}
use Rattle.std.specs.List.{flat_map, range_with_len}
use Rattle.dsde_bank.specs.declared.handle.Handle.{Handle}
use Rattle.dsde_values.specs.declared.value.Value.{Value}
use Rattle.dsde_routes_wiring.specs.given.structure.Gather.{Ports}
use Rattle.dsde_core_parcels.specs.declared.parcel.Parcel.{Parcel}
use Rattle.dsde_core_parcels.specs.declared.inbox.Get.{Get}
use Rattle.dsde_core_parcels.specs.declared.inbox.Inbox.{Inbox}

-- what comes to a port of a target
pub record Lot : Type 0 where
  pub target : Handle
  pub get : Get

abbrev pub lot_of : Parcel → Lot
lot_of parcel = record { target = parcel.target; get = record { port = parcel.port; values = parcel.values } }

-- the inbox of what comes
abbrev pub inbox_of : Lot → Inbox
inbox_of lot = record { target = lot.target; gets = lot.get ∷ [] }

abbrev pub with_get : Inbox → Get → Inbox
with_get inbox get = record { target = inbox.target; gets = inbox.gets ++ get ∷ [] }

-- A lot goes into the last inbox, or into one of its own behind it.
abbrev pub put_by : Bool → Inbox → Lot → List Inbox
put_by is_same inbox lot = if is_same then with_get inbox lot.get ∷ [] else inbox ∷ inbox_of lot ∷ []

abbrev pub put_lot : List Inbox → Lot → List Inbox
put_lot [] lot = inbox_of lot ∷ []
put_lot (inbox ∷ []) lot = put_by (inbox.target.birth == lot.target.birth) inbox lot
put_lot (inbox ∷ later ∷ inboxes) lot = inbox ∷ put_lot (later ∷ inboxes) lot

-- one lot after another
abbrev pub put_lots : List Inbox → List Lot → List Inbox
put_lots inboxes [] = inboxes
put_lots inboxes (lot ∷ lots) = put_lots (put_lot inboxes lot) lots

-- what comes to a port, of what comes to a target
abbrev pub values_at : ℕ → List Get → List Value
values_at port gets = flat_map (λ get. if get.port == port then get.values else []) gets

-- port by port
abbrev pub spread : ℕ → List Get → Ports
spread ports gets = map (λ port. values_at port gets) (range_with_len 0 ports)
