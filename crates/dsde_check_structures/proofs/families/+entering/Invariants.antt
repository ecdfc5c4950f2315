-- What is found in the rest, behind what was found so far, stays the same.
use Rattle.std.proofs.Common.{◌≡◌, map, drop}
use Rattle.dsde_language.specs.RuleStructures.{enter, enter_all}
use Rattle.dsde_check_structures.specs.Parts.{enter_arm}
use Rattle.dsde_check_structures.proofs.families.+entering.Given as goal

abbrev pub invariant-enter_all-loop-item : goal.invariant-enter_all-loop-item
invariant-enter_all-loop-item l =
    enter_all (map (enter l.known) (drop l.item-index l.items)) l.families ≡ enter_all (map (enter l.known) l.items) l.fn.families

abbrev pub invariant-enter_arms-loop-arm : goal.invariant-enter_arms-loop-arm
invariant-enter_arms-loop-arm l =
    enter_all (map (enter_arm l.known) (drop l.arm-index l.arms)) l.families ≡ enter_all (map (enter_arm l.known) l.arms) l.fn.families
