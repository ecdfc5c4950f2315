use Rattle.std.proofs.Common.{◌≡◌, ◌++◌, drop}
use Rattle.dsde_routes_wiring.proofs.small.Chain.append.Given as goal

abbrev pub invariant-loop-via : goal.invariant-loop-via
invariant-loop-via l = l.self ++ drop l.via-index l.more ≡ l.fn.self ++ l.more
