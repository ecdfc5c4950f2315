use Rattle.dsde_values.specs.Path.{root}
use Rattle.dsde_core_moving.proofs.Places.{change-alike, leads-there}
use Rattle.dsde_core_moving.proofs.rewiring_laws.wirings_change_alike.Goals as goal

pub returns-clause-there : goal.returns-clause-there
returns-clause-there c names top handle path wiring net is = leads-there names top handle root path wiring net is

pub returns-clause-alike : goal.returns-clause-alike
returns-clause-alike c names top handle path wiring net kids links is = change-alike names top handle root path wiring net kids links is
