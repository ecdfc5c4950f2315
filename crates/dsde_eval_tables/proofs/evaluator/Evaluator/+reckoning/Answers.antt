use Rattle.std.proofs.Common.{sym, arith}
use Rattle.dsde_eval_tables.specs.Evaluating.{coded_of}
use Rattle.dsde_eval_tables.proofs.Reckoning.{node-number}
use Rattle.dsde_eval_tables.proofs.evaluator.Evaluator.+reckoning.Goals as goal

pub reckon-returns-in-Some : goal.reckon-returns-in-Some
reckon-returns-in-Some t c =
    node-number (coded_of c.args.self.now) c.args.depth c.args.number c.args.slots.now c.in-Some.node.now c.reckon_node.result (omega arith) (sym c.in-Some.ensures.value) c.reckon_node.ensures
