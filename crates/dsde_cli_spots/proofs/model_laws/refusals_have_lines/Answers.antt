use Rattle.dsde_cli_spots.proofs.Places.{refusals-have-lines}
use Rattle.dsde_cli_spots.proofs.model_laws.refusals_have_lines.Goals as goal

pub returns : goal.returns
returns c = refusals-have-lines
