use Rattle.dsde_sound_names.proofs.Laying.{plan-called}
use Rattle.dsde_sound_names.proofs.laws.plans_are_called_so.Goals as goal

pub returns : goal.returns
returns c = plan-called
