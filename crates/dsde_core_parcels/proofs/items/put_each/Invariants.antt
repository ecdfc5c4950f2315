use Rattle.std.proofs.Common.{◌≡◌}
use Rattle.dsde_core_parcels.specs.Ports.{put_all}
use Rattle.dsde_core_parcels.proofs.items.put_each.Given as goal

abbrev pub invariant-loop-item : goal.invariant-loop-item
invariant-loop-item l = put_all l.item-iterator.rest.items l.got ≡ put_all l.fn.items l.fn.ports
