use Rattle.dsde_cli.proofs.Restoring.{taken-up}
use Rattle.dsde_cli.proofs.joined_laws.runs_are_taken_up.Goals as goal

pub returns : goal.returns
returns c = taken-up c.runs_begin.ensures c.runs_can_be_cut.ensures c.runs_stand.ensures c.images_are_restored.ensures
