use Rattle.std.proofs.Common.{◌∙◌}
use Rattle.dsde_routes_wiring.specs.Flatten.{flatten}
use Rattle.dsde_core_parcels.proofs.Received.{are-received}
use Rattle.dsde_core_parcels.proofs.parcels.parcels_are_received.Goals as goal

pub returns : goal.returns
returns c = λ traffic wiring parcels of target port.
    let ordered = c.push_equals_gather.ensures.ordered wiring of.own in
    let rows = ordered target port in
    c.push_equals_gather.ensures.pushed traffic wiring of.own of.have target port rows.0 rows.1
    ∙ are-received traffic (flatten wiring) of.outlets of.sent of.tell ordered target port of.pushed parcels of.are of.same of.order rows.0 rows.1
