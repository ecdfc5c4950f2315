use Rattle.dsde_sim_changing.proofs.Walking.{Left}
use Rattle.dsde_sim_changing.proofs.splitting.split.Given as goal

abbrev pub invariant-loop-kid : goal.invariant-loop-kid
invariant-loop-kid l = Left l.entries l.fn.kids l.path l.fn.room l.fn.events l.kept l.room l.events l.rest l.kid-iterator.rest.items
