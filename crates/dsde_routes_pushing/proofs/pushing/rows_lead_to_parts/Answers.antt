use Rattle.dsde_routes_wiring.specs.Wired.{handles}
use Rattle.dsde_routes_pushing.specs.lemmas.Lists.{contains-from}
use Rattle.dsde_routes_pushing.proofs.Targets.{leads-to}
use Rattle.dsde_routes_pushing.proofs.pushing.rows_lead_to_parts.Goals as goal

pub returns : goal.returns
returns c = λ wiring row there. contains-from (handles wiring) row.target (leads-to wiring row there)
