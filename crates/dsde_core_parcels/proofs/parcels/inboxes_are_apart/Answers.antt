use Rattle.dsde_core_parcels.proofs.Cut.{all-meant}
use Rattle.dsde_core_parcels.proofs.parcels.inboxes_are_apart.Goals as goal

pub returns : goal.returns
returns c = λ inboxes rise. all-meant inboxes rise
