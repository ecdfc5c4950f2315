-- What the rest adds behind what was added so far is what all add.
use Rattle.std.proofs.Common.{◌≡◌, map, drop}
use Rattle.dsde_language.specs.DeclaredStructures.{kin_all, kin_of}
use Rattle.dsde_program_structures.specs.Parts.{kin_arm}
use Rattle.dsde_program_structures.proofs.families.+entering.Given as goal

abbrev pub invariant-enter_all-loop-item : goal.invariant-enter_all-loop-item
invariant-enter_all-loop-item l =
    kin_all (map (kin_of l.known) (drop l.item-index l.items)) l.families ≡ kin_all (map (kin_of l.known) l.items) l.fn.families

abbrev pub invariant-enter_arms-loop-arm : goal.invariant-enter_arms-loop-arm
invariant-enter_arms-loop-arm l =
    kin_all (map (kin_arm l.known) (drop l.arm-index l.arms)) l.families ≡ kin_all (map (kin_arm l.known) l.arms) l.fn.families
