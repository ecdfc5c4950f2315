use Rattle.dsde_sim_starting.proofs.Asks.{HaveAnswered}
use Rattle.dsde_sim_starting.proofs.asking.+output.Given as goal

abbrev pub invariant-asked-loop-kid : goal.invariant-asked-loop-kid
invariant-asked-loop-kid l = HaveAnswered l.program l.kids l.path l.time l.kid-index l.done
