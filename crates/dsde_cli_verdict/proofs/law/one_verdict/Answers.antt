use Rattle.dsde_cli_verdict.proofs.VerdictLemmas.{one_verdict}
use Rattle.dsde_cli_verdict.proofs.law.one_verdict.Goals as goal

pub returns : goal.returns
returns c = one_verdict c.one_model.ensures
