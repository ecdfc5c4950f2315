-- What is seen of the rest, after what was seen so far, stays the same.
use Rattle.std.proofs.Common.{◌≡◌, drop, length, map, take}
use Rattle.dsde_language.specs.Blocks.{arms_walk, walk, walk_all, walk_arm}
use Rattle.dsde_check_bodies.proofs.statements.+walking.Given as goal

abbrev pub invariant-stmts-loop-each : goal.invariant-stmts-loop-each
invariant-stmts-loop-each l =
    (walk_all (map (walk l.around l.ports) (drop l.each-index l.stmts)) l.height l.scope ≡ walk_all (map (walk l.around l.ports) l.stmts) l.before l.fn.scope)
    × (take (length l.fn.scope) l.scope ≡ l.fn.scope)

abbrev pub invariant-walk_arms-loop-arm : goal.invariant-walk_arms-loop-arm
invariant-walk_arms-loop-arm l =
    (arms_walk (map (walk_arm l.around l.ports) (drop l.arm-index l.arms)) l.height l.scope ≡ arms_walk (map (walk_arm l.around l.ports) l.arms) 0 l.fn.scope)
    × (l.scope ≡ l.fn.scope)
