use Rattle.std.proofs.Common.{◌∙◌, [], map, sym}
use Rattle.dsde_routes_wiring.specs.Flatten.{flatten}
use Rattle.dsde_core_parcels.specs.Inboxes.{lot_of}
use Rattle.dsde_core_parcels.proofs.Cut.{all-climb, all-rise, inboxes-bring, nothing-up, target_of, told-parcels}
use Rattle.dsde_core_parcels.proofs.Received.{one-target}
use Rattle.dsde_core_parcels.proofs.parcels.inboxes_are_received.Goals as goal

pub returns-clause-brought : goal.returns-clause-brought
returns-clause-brought c = λ traffic wiring parcels of target port.
    c.parcels_are_received.ensures traffic wiring parcels of target port
    ∙ sym (inboxes-bring (target_of parcels) parcels (told-parcels parcels (one-target traffic (flatten wiring) of.outlets of.sent of.tell of.pushed parcels of.are of.same)) target port)

pub returns-clause-rise : goal.returns-clause-rise
returns-clause-rise c = λ parcels order. all-rise (map lot_of parcels) [] tt (nothing-up (map lot_of parcels)) (all-climb parcels order)
