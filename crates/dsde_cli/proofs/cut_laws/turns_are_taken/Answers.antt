use Rattle.dsde_cli.proofs.CutTurning.{turn-is}
use Rattle.dsde_cli.proofs.cut_laws.turns_are_taken.Goals as goal

pub returns : goal.returns
returns c = λ system engine head took after is. turn-is system engine head took after is
