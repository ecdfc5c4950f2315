use Rattle.std.proofs.Common.{Ok}
use Rattle.dsde_cli.proofs.Loads.{same_model}
use Rattle.dsde_cli.proofs.load.accepted.Goals as goal

pub returns-in-Ok-clause-only : goal.returns-in-Ok-clause-only
returns-in-Ok-clause-only c = λ other accepts. same_model c.in-Ok.model other (c.in-Ok.ensures.only (Ok other) accepts)
