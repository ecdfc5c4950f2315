use Rattle.std.proofs.Common.{◌≡◌, Some, arith, slice_get}
use Rattle.dsde_language.specs.declared.node.Node.TheVariants as node
use Rattle.dsde_eval_tables.specs.Evaluating.{coded_of}
use Rattle.dsde_eval_tables.proofs.Standing.{slot-lent}
use Rattle.dsde_eval_tables.proofs.evaluator.Evaluator.in_slot.Goals as goal

pub returns-in-Some-Slot : goal.returns-in-Some-Slot
returns-in-Some-Slot c =
    let there : slice_get c.args.self.now.tables.now.nodes c.args.number.0 ≡ Some (node.Slot c.in-Some-Slot.slot) = cc (c.in-Some-Slot.ensures.value) in
    slot-lent (coded_of c.args.self.now) c.args.depth c.args.number c.args.slots.now c.in-Some-Slot.slot c.get-in-Some-Slot.result (omega arith) there c.get-in-Some-Slot.ensures.value
