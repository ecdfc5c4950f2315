use Rattle.std.proofs.Common.{◌≡◌, ◌+◌, ◌++◌, length}
use Rattle.dsde_core_parcels.specs.Outlets.{outlets_from}
use Rattle.dsde_core_parcels.proofs.outlets.put_outlets.Given as goal

abbrev pub invariant-loop-values : goal.invariant-loop-values
invariant-loop-values l =
    (l.outlets ++ outlets_from l.source l.port l.values-iterator.rest.items ≡ l.initial.outlets ++ outlets_from l.fn.source 0 l.fn.ports)
    × (l.port + length l.values-iterator.rest.items ≡ length l.fn.ports)
