use Rattle.dsde_cli.proofs.Running.{run-begins}
use Rattle.dsde_cli.proofs.standing_laws.runs_begin.Goals as goal

pub returns : goal.returns
returns c = λ system engine is. run-begins system engine is
