use Rattle.std.proofs.Common.{◌≡◌, ◌++◌, length, take, drop}
use Rattle.dsde_sim_tree.specs.Output.{outs_at}
use Rattle.dsde_sim_telling.proofs.tell.tell_out.Given as goal

abbrev pub invariant-loop-value : goal.invariant-loop-value
invariant-loop-value l =
    (l.events ++ outs_at l.port (drop l.value-index l.values) ≡ l.initial.events ++ outs_at l.port l.values)
    × (take (length l.initial.events) l.events ≡ l.initial.events)
