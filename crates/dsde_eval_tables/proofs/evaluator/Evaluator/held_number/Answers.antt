use Rattle.std.proofs.Common.{◌≡◌, Some, arith, slice_get}
use Rattle.dsde_language.specs.declared.node.Node.TheVariants as node
use Rattle.dsde_eval_tables.specs.Evaluating.{coded_of}
use Rattle.dsde_eval_tables.proofs.Reckoning.{number-held}
use Rattle.dsde_eval_tables.proofs.evaluator.Evaluator.held_number.Goals as goal

pub returns-in-Some-Some : goal.returns-in-Some-Some
returns-in-Some-Some c =
    let there : slice_get c.args.self.now.tables.now.nodes c.args.number.0 ≡ Some (node.Some c.in-Some-Some.part) = cc (c.in-Some-Some.ensures.value) in
    number-held (coded_of c.args.self.now) c.args.depth c.args.number c.in-Some-Some.part c.args.slots.now c.reckon.result (omega arith) there c.reckon.ensures
