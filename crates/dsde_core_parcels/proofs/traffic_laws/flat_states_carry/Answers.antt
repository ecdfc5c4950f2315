use Rattle.dsde_routes_wiring.specs.Wired.{handles}
use Rattle.dsde_routes_pushing.specs.lemmas.Lists.{among-from}
use Rattle.dsde_core_parcels.proofs.Carrying.{has-own-handles, have-ports, is-traffic, root-is, row-goes, tell-targets, wired-is}
use Rattle.dsde_core_parcels.proofs.traffic_laws.flat_states_carry.Goals as goal

pub returns-clause-wiring : goal.returns-clause-wiring
returns-clause-wiring c = λ model own top wiring net time got carry. wired-is model own top wiring net time got carry

pub returns-clause-root : goal.returns-clause-root
returns-clause-root c = λ model own top wiring net time got carry. root-is model own top wiring net time got carry

pub returns-clause-traffic : goal.returns-clause-traffic
returns-clause-traffic c = λ model own top wiring net time got carry. is-traffic model own top wiring net time got carry

pub returns-clause-handles : goal.returns-clause-handles
returns-clause-handles c = λ model own top wiring net time got carry. has-own-handles model own top wiring net time got carry

pub returns-clause-ports : goal.returns-clause-ports
returns-clause-ports c = λ model own top wiring net time got carry. have-ports model own top wiring net time got carry

pub returns-clause-tell : goal.returns-clause-tell
returns-clause-tell c = λ model own top wiring net time got carry row other here there.
    tell-targets model own top wiring net time got carry row.target other.target
    (among-from (handles wiring) row.target (c.rows_lead_to_parts.ensures wiring row here)) (among-from (handles wiring) other.target (c.rows_lead_to_parts.ensures wiring other there))

pub returns-clause-goes : goal.returns-clause-goes
returns-clause-goes c = λ model own top wiring net time got carry row there. row-goes model own top wiring net time got carry c.reach_covers.ensures row there
