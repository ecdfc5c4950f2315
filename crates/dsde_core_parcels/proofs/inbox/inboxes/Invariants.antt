use Rattle.std.proofs.Common.{◌≡◌, [], map}
use Rattle.dsde_core_parcels.specs.Inboxes.{lot_of, put_lots}
use Rattle.dsde_core_parcels.proofs.inbox.inboxes.Given as goal

abbrev pub invariant-loop-parcel : goal.invariant-loop-parcel
invariant-loop-parcel l = put_lots l.all (map lot_of l.parcel-iterator.rest.items) ≡ put_lots [] (map lot_of l.fn.parcels)
