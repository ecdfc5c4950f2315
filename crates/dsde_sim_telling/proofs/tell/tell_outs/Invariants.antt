use Rattle.std.proofs.Common.{◌≡◌, ◌++◌, length, take, drop}
use Rattle.dsde_sim_tree.specs.Output.{outs_from}
use Rattle.dsde_sim_telling.proofs.tell.tell_outs.Given as goal

abbrev pub invariant-loop-port : goal.invariant-loop-port
invariant-loop-port l =
    (l.events ++ outs_from l.port (drop l.port l.sent) ≡ l.initial.events ++ outs_from 0 l.sent)
    × (take (length l.initial.events) l.events ≡ l.initial.events)
