use Rattle.std.proofs.Common.{◌≡◌, drop, map}
use Rattle.dsde_language.specs.Blocks.{state_of, walk_all}
use Rattle.dsde_check_bodies.proofs.bodies.states.Given as goal

abbrev pub invariant-loop-own : goal.invariant-loop-own
invariant-loop-own l =
    walk_all (map (state_of l.around l.ports) (drop l.own-index l.states)) l.height l.scope ≡ walk_all (map (state_of l.around l.ports) l.states) 0 l.fn.scope
