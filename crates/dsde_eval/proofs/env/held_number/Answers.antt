use Rattle.dsde_eval_tables.specs.Evaluating as evaluating
use Rattle.dsde_eval.proofs.Exprs.{number-came}
use Rattle.dsde_eval.proofs.env.held_number.Goals as goal

pub returns : goal.returns
returns c =
    number-came c.args.program.now c.right.ensures c.laws.ensures.expressions c.laws.ensures.known c.laws.ensures.functions
    (evaluating.coded_of c.evaluator.result) c.evaluator.ensures c.args.expr.0 c.args.env.now.slots c.held_number.result c.held_number.ensures
