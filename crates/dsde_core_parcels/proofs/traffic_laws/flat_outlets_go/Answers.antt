use Rattle.dsde_core_parcels.proofs.TrafficOutlets.{outlets-go}
use Rattle.dsde_core_parcels.proofs.traffic_laws.flat_outlets_go.Goals as goal

pub returns : goal.returns
returns c = λ model own top wiring net time got outlets carry sent.
    outlets-go model own top wiring time got outlets sent (c.flat_states_carry.ensures.goes model own top wiring net time got carry)
