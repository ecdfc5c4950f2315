use Rattle.std.proofs.Common.{◌≡◌}
use Rattle.dsde_core_parcels.specs.Ports.{add_all}
use Rattle.dsde_core_parcels.proofs.ports.add_each.Given as goal

abbrev pub invariant-loop-get : goal.invariant-loop-get
invariant-loop-get l = add_all l.get-iterator.rest.items l.got ≡ add_all l.fn.gets l.fn.ports
