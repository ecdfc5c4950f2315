-- What is seen of the rest, after what was seen so far, stays the same.
use Rattle.std.proofs.Common.{◌≡◌, map, drop, take, length}
use Rattle.dsde_language.specs.Blocks.{arms_walk, walk_all}
use Rattle.dsde_language.specs.RuleStructures.{item_walk}
use Rattle.dsde_check_structures.specs.Parts.{item_arm_walk}
use Rattle.dsde_check_structures.proofs.items.+walking.Given as goal

abbrev pub invariant-walk_all-loop-own : goal.invariant-walk_all-loop-own
invariant-walk_all-loop-own l =
    (walk_all (map (item_walk l.site) (drop l.own-index l.items)) l.height l.scope ≡ walk_all (map (item_walk l.site) l.items) l.fn.start l.fn.scope)
    × (take (length l.fn.scope) l.scope ≡ l.fn.scope)

abbrev pub invariant-arms_walk-loop-arm : goal.invariant-arms_walk-loop-arm
invariant-arms_walk-loop-arm l =
    (arms_walk (map (item_arm_walk l.site) (drop l.arm-index l.arms)) l.height l.scope ≡ arms_walk (map (item_arm_walk l.site) l.arms) 0 l.fn.scope)
    × (l.scope ≡ l.fn.scope)
