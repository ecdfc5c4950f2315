use Rattle.dsde_run.proofs.Again.{gives-again}
use Rattle.dsde_run.proofs.restoring.restore.Goals as goal

pub returns-clause-again : goal.returns-clause-again
returns-clause-again c = gives-again c.images_are_restored.ensures c.args.program.now c.right.ensures c.args.bytes.now c.answered.result c.answered.ensures.exact
