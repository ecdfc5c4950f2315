use Rattle.std.proofs.Common.{◌≡◌, [], drop}
use Rattle.dsde_atomic.proofs.Tops.{Topping}
use Rattle.dsde_atomic.proofs.top.top_args.Given as goal

abbrev pub invariant-loop-number : goal.invariant-loop-number
invariant-loop-number l = Topping l.program (drop l.number-index l.numbers) l.args × (l.env.slots ≡ [])
