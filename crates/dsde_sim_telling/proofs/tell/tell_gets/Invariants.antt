use Rattle.std.proofs.Common.{◌≡◌, ◌++◌, length, take, drop}
use Rattle.dsde_sim_tree.specs.Move.{gets_from}
use Rattle.dsde_sim_telling.proofs.tell.tell_gets.Given as goal

abbrev pub invariant-loop-port : goal.invariant-loop-port
invariant-loop-port l =
    (l.events ++ gets_from l.path l.model l.port (drop l.port l.got) ≡ l.initial.events ++ gets_from l.path l.model 0 l.got)
    × (take (length l.initial.events) l.events ≡ l.initial.events)
