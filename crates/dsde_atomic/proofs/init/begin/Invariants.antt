use Rattle.std.proofs.Common.{drop}
use Rattle.dsde_atomic.proofs.Inits.{Initing}
use Rattle.dsde_atomic.proofs.init.begin.Given as goal

abbrev pub invariant-loop-number : goal.invariant-loop-number
invariant-loop-number l = Initing l.program l.fn.model.0 l.fn.env.slots (drop l.number-index l.numbers) l.env.slots
