use Rattle.dsde_cli.proofs.Telling.{run-tells}
use Rattle.dsde_cli.proofs.delivery_laws.runs_are_their_turns.Goals as goal

pub returns : goal.returns
returns c system spots records turns engine is = run-tells system spots records turns engine is
