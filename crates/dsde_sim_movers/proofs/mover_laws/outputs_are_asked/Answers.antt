use Rattle.std.proofs.Common.{◌∙◌}
use Rattle.dsde_sim_movers.specs.Asking.{seated}
use Rattle.dsde_sim_movers.proofs.Asked.{asks, due-asked}
use Rattle.dsde_sim_movers.proofs.mover_laws.outputs_are_asked.Goals as goal

pub returns : goal.returns
returns c system tree path time = asks system time tree path ∙ due-asked system time (seated tree path)
