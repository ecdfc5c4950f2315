use Rattle.std.proofs.Common.{◌≡◌, ◌++◌, length}
use Rattle.std.specs.Vec.Iter.{into_iter_items, into_iter_len}
use Rattle.dsde_system.specs.Body.{lists_of}
use Rattle.dsde_atomic.proofs.moves.put_lists.Given as goal

abbrev pub invariant-loop-values : goal.invariant-loop-values
invariant-loop-values l =
    (l.yielded ++ into_iter_items l.values-iterator ≡ into_iter_items l.initial.values-iterator)
    × (l.slots ≡ l.fn.slots ++ lists_of l.yielded)
    × (into_iter_len l.values-iterator ≡ length (into_iter_items l.values-iterator))
