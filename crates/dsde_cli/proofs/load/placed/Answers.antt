use Rattle.dsde_cli.proofs.Spots.{one_running}
use Rattle.dsde_cli.proofs.load.placed.Goals as goal

pub returns-in-Ok-clause-only : goal.returns-in-Ok-clause-only
returns-in-Ok-clause-only c = one_running c.args.bytes.now c.args.model c.in-Ok.places c.requires.only c.in-Ok.ensures
