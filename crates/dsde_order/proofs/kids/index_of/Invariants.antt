use Rattle.std.proofs.Common.{take}
use Rattle.dsde_sim_movers.specs.lemmas.Seats.{NoneNamed}
use Rattle.dsde_order.proofs.kids.index_of.Given as goal

abbrev pub invariant-loop-index : goal.invariant-loop-index
invariant-loop-index l = NoneNamed l.name (take l.index l.kids)
