use Rattle.std.proofs.Common.{◌≡◌, ◌++◌, length, take, drop}
use Rattle.dsde_sim_tree.specs.Move.{gets_at}
use Rattle.dsde_sim_telling.proofs.tell.tell_got.Given as goal

abbrev pub invariant-loop-value : goal.invariant-loop-value
invariant-loop-value l =
    (l.events ++ gets_at l.path l.model l.port (drop l.value-index l.values) ≡ l.initial.events ++ gets_at l.path l.model l.port l.values)
    × (take (length l.initial.events) l.events ≡ l.initial.events)
