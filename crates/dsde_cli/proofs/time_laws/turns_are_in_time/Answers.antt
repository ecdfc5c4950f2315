use Rattle.dsde_cli.proofs.Times.{turn-in}
use Rattle.dsde_cli.proofs.time_laws.turns_are_in_time.Goals as goal

pub returns : goal.returns
returns c = turn-in
