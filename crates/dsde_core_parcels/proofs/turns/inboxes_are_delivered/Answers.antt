use Rattle.std.proofs.Common.{◌≡◌, ℕ, ◌∙◌, List, [], sym, subst}
use Rattle.std.specs.Prelude.{slice_index_or}
use Rattle.std.specs.List.{AllByRecursion, flat_map}
use Rattle.dsde_values.specs.Path.{root}
use Rattle.dsde_sim_tree.specs.given.formalism.System.{Ports}
use Rattle.dsde_sim_tree.specs.declared.sim.Sim.TheVariants as sim
use Rattle.dsde_sim_tree.specs.Move.{ins_of}
use Rattle.dsde_sim_tree.specs.Output.{by_port}
use Rattle.dsde_routes_pushing.specs.given.sim_movers.Deliveries.{Delivery, deliveries}
use Rattle.dsde_routes_wiring.specs.declared.row.Row.{Row}
use Rattle.dsde_routes_wiring.specs.Flatten.{flatten}
use Rattle.dsde_routes_pushing.specs.Carried.{pushed}
use Rattle.dsde_routes_pushing.specs.Pushed.{AreRowsTo}
use Rattle.dsde_routes_pushing.specs.Wire.{wired_net}
use Rattle.dsde_core_parcels.specs.Brought.{brought}
use Rattle.dsde_core_parcels.specs.Delivered.{inboxes_of}
use Rattle.dsde_core_parcels.proofs.Cut.{inboxes-bring, target_of, told-parcels}
use Rattle.dsde_core_parcels.proofs.Received.{are-received, one-target}
use Rattle.dsde_core_parcels.proofs.Delivering.{all-brought, each-weaker}
use Rattle.dsde_core_parcels.proofs.turns.inboxes_are_delivered.Goals as goal

pub returns : goal.returns
returns c = λ system handle time traffic net items parcels turn.
    let wiring = wired_net handle net root in
    let table = flatten wiring in
    let got = by_port (ins_of system (sim.Net net)) items in
    let inboxes = inboxes_of parcels in
    let are = turn.are in
    let ordered = c.push_equals_gather.ensures.ordered wiring are.own in
    let rows = c.rows_carry_as_trees.ensures system handle time traffic net root turn.of are.own are.have in
    let here = subst (λ (ports : Ports). AllByRecursion (λ (delivery : Delivery). (port : ℕ) (list : List Row) → AreRowsTo table (handle delivery.path) port list → slice_index_or delivery.ports port [] ≡ flat_map (pushed traffic) list) (deliveries system (sim.Net net) root time ports)) turn.came rows in
    all-brought system handle (sim.Net net) time got inboxes (deliveries system (sim.Net net) root time got)
    (c.deliveries_are_found.ensures system (sim.Net net) time items turn.named)
    (each-weaker (λ (delivery : Delivery). (port : ℕ) (list : List Row) → AreRowsTo table (handle delivery.path) port list → slice_index_or delivery.ports port [] ≡ flat_map (pushed traffic) list)
    (λ (delivery : Delivery). (port : ℕ) → slice_index_or delivery.ports port [] ≡ brought inboxes (handle delivery.path) port)
    (λ delivery each port.
    let list = ordered (handle delivery.path) port in
    each port list.0 list.1
    ∙ are-received traffic table are.outlets are.sent are.tell ordered (handle delivery.path) port are.pushed parcels are.are are.same are.order list.0 list.1
    ∙ sym (inboxes-bring (target_of parcels) parcels (told-parcels parcels (one-target traffic table are.outlets are.sent are.tell are.pushed parcels are.are are.same)) (handle delivery.path) port))
    (deliveries system (sim.Net net) root time got) here)
