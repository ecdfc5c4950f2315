use Rattle.dsde_eval_tables.specs.Evaluating as evaluating
use Rattle.dsde_eval.proofs.Exprs.{part-allowed, part-came}
use Rattle.dsde_eval.proofs.env.eval.Goals as goal

pub eval-requires : goal.eval-requires
eval-requires c =
    part-allowed c.args.program.now c.right.ensures c.laws.ensures.expressions c.laws.ensures.known c.laws.ensures.functions
    (evaluating.coded_of c.evaluator.result) c.evaluator.ensures c.args.expr.0 c.args.env.now.slots c.requires

pub returns-clause-means : goal.returns-clause-means
returns-clause-means c =
    part-came c.args.program.now c.right.ensures c.laws.ensures.expressions c.laws.ensures.known c.laws.ensures.functions
    (evaluating.coded_of c.evaluator.result) c.evaluator.ensures c.args.expr.0 c.args.env.now.slots c.eval.result c.eval.ensures.gives
