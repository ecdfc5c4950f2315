use Rattle.dsde_cli_spots.proofs.Places.{faults-are-at-tokens}
use Rattle.dsde_cli_spots.proofs.model_laws.faults_are_told_at_tokens.Goals as goal

pub returns : goal.returns
returns c = faults-are-at-tokens c.faults_are_at_tokens.ensures
