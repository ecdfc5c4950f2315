-- One more model's ports stand behind those before.
use Rattle.std.proofs.Common.{◌∙◌, ap}
use Rattle.dsde_program_structures.proofs.Loops.{next_made}
use Rattle.dsde_program_structures.specs.Sides.{gate_of}
use Rattle.dsde_program_structures.proofs.gates.add_gates.Goals as goal

pub loop-model-preserved : goal.loop-model-preserved
loop-model-preserved c =
    next_made c.args.models.now c.loop-model.model-index c.model-item.result c.loop-model-test.true c.model-item.is gate_of c.loop-model.gates c.push.new.self c.in_ok-gate_of.field-0 c.in_ok-push.ensures.ok (c.in_ok-gate_of.ensures ∙ ap gate_of c.get.ensures) ∙ c.loop-model.invariant
