use Rattle.std.proofs.Common.{[], refl}
use Rattle.dsde_core_parcels.specs.lemmas.CallHeld.{empty-told}
use Rattle.dsde_core_parcels.proofs.call_laws.empty_inboxes_tell_nobody.Goals as goal

pub returns : goal.returns
returns c = λ system own time target. empty-told system own time (record { target = target; gets = [] }) refl
