use Rattle.std.proofs.Common.{◌≡◌, ◌++◌, map}
use Rattle.dsde_executive_planner.proofs.drawn.bare.Given as goal

abbrev pub invariant-loop-link : goal.invariant-loop-link
invariant-loop-link l = l.links ++ map (λ own. own.link) l.link-iterator.rest.items ≡ map (λ own. own.link) l.fn.placed
