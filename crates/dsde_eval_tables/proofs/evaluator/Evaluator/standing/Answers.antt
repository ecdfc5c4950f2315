use Rattle.std.proofs.Common.{◌≡◌, Some, arith, slice_get}
use Rattle.dsde_language.specs.declared.node.Node.TheVariants as node
use Rattle.dsde_eval_tables.specs.Evaluating.{coded_of}
use Rattle.dsde_eval_tables.proofs.Standing.{node-lent, slot-lent}
use Rattle.dsde_eval_tables.proofs.evaluator.Evaluator.standing.Goals as goal

pub returns-in-Some-Slot : goal.returns-in-Some-Slot
returns-in-Some-Slot c =
    let there : slice_get c.args.self.now.tables.now.nodes c.args.number.0 ≡ Some (node.Slot c.in-Some-Slot.slot) = cc (c.in-Some-Slot.ensures.value) in
    slot-lent (coded_of c.args.self.now) c.args.depth c.args.number c.args.slots.now c.in-Some-Slot.slot c.get-in-Some-Slot.result (omega arith) there c.get-in-Some-Slot.ensures.value

pub returns-in-Some-Field : goal.returns-in-Some-Field
returns-in-Some-Field c =
    let there : slice_get c.args.self.now.tables.now.nodes c.args.number.0 ≡ Some (node.Field c.in-Some-Field.field c.in-Some-Field.part) = cc (c.in-Some-Field.ensures.value) in
    node-lent (coded_of c.args.self.now) c.args.depth c.args.number c.args.slots.now (node.Field c.in-Some-Field.field c.in-Some-Field.part) c.field_standing.result (omega arith) there c.field_standing.ensures
