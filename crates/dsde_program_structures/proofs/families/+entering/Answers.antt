-- One more item's components are added behind those before.
use Rattle.std.proofs.Common.{◌∙◌}
use Rattle.dsde_language.specs.DeclaredStructures.{kin_of}
use Rattle.dsde_program_structures.proofs.Loops.{next_kin}
use Rattle.dsde_program_structures.proofs.families.+entering.Goals as goal

pub enter_all-loop-item-preserved : goal.enter_all-loop-item-preserved
enter_all-loop-item-preserved t c =
    next_kin c.args.items.now c.loop-item.item-index c.item-item.result c.loop-item-test.true c.item-item.is (kin_of c.args.known.now) c.loop-item.families c.enter.new.families c.in_ok-enter.ensures ∙ c.loop-item.invariant
