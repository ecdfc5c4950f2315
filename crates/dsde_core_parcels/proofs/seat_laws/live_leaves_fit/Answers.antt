use Rattle.dsde_core_parcels.specs.lemmas.Living.{living-fits}
use Rattle.dsde_core_parcels.proofs.seat_laws.live_leaves_fit.Goals as goal

pub returns : goal.returns
returns c = λ model own top wiring tree stands named fits handle leaf held. living-fits own top wiring tree stands named model fits handle leaf held
