use Rattle.dsde_core_moves.specs.given.system.Program.{system}
use Rattle.dsde_core_parcels.specs.lemmas.TrafficHeld.{root-is-net}
use Rattle.dsde_core_parcels.proofs.OutletSending.{are-sent}
use Rattle.dsde_core_parcels.proofs.outlet_laws.flat_outlets_are_sent.Goals as goal

pub returns : goal.returns
returns c = λ model own top wiring net time got due carry are.
    are-sent (system model) time own top got (root-is-net model own top wiring net time got carry) due are
