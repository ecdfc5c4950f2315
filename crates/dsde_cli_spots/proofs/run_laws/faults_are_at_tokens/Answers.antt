use Rattle.dsde_cli_spots.proofs.Runs.{faults-are-at-tokens}
use Rattle.dsde_cli_spots.proofs.run_laws.faults_are_at_tokens.Goals as goal

pub returns : goal.returns
returns c = faults-are-at-tokens c.faults_are_placed.ensures.tops c.faults_are_placed.ensures.systems
