use Rattle.std.proofs.Common.{◌≡◌, ◌∙◌, ℕ, List, [], ap, sym}
use Rattle.std.specs.Prelude.{slice_index_or}
use Rattle.std.specs.List.{flat_map}
use Rattle.dsde_bank.specs.declared.handle.Handle.{Handle}
use Rattle.dsde_values.specs.Path.{root}
use Rattle.dsde_sim_tree.specs.given.formalism.System.{Ports}
use Rattle.dsde_routes_wiring.specs.declared.row.Row.{Row}
use Rattle.dsde_routes_wiring.specs.Flatten.{flatten}
use Rattle.dsde_routes_pushing.specs.Carried.{Delivery, load, pushed}
use Rattle.dsde_routes_pushing.specs.Pushed.{AreRowsTo}
use Rattle.dsde_routes_pushing.specs.Wire.{wired_net}
use Rattle.dsde_core_parcels.specs.Brought.{brought}
use Rattle.dsde_core_parcels.specs.Delivered.{inboxes_of}
use Rattle.dsde_core_parcels.proofs.Cut.{inboxes-bring, target_of, told-parcels}
use Rattle.dsde_core_parcels.proofs.Received.{are-received, one-target}
use Rattle.dsde_core_parcels.proofs.Delivering.{one-ok, all-last}
use Rattle.dsde_core_parcels.proofs.turns.inboxes_are_sent.Goals as goal

pub returns : goal.returns
returns c = λ system handle time traffic net items parcels turn sent output-is port.
    let wiring = wired_net handle net root in
    let table = flatten wiring in
    let whole = load traffic wiring in
    let inboxes = inboxes_of parcels in
    let are = turn.are in
    let ordered = c.push_equals_gather.ensures.ordered wiring are.own in
    let is = one-ok sent whole.sends (sym output-is ∙ c.wirings_carry_as_trees.ensures.sent system handle time traffic net root turn.of) in
    let last : Delivery = record { part = whole.me; ports = whole.sends } in
    let each = all-last (λ (delivery : Delivery). (port : ℕ) (list : List Row) → AreRowsTo table delivery.part port list → slice_index_or delivery.ports port [] ≡ flat_map (pushed traffic) list)
    (whole.deliveries (traffic.sent whole.me)) last (c.push_equals_gather.ensures.each traffic wiring are.own are.have) in
    let list = ordered whole.me port in
    ap (λ (ports : Ports). slice_index_or ports port []) is
    ∙ each port list.0 list.1
    ∙ are-received traffic table are.outlets are.sent are.tell ordered whole.me port are.pushed parcels are.are are.same are.order list.0 list.1
    ∙ sym (inboxes-bring (target_of parcels) parcels (told-parcels parcels (one-target traffic table are.outlets are.sent are.tell are.pushed parcels are.are are.same)) whole.me port)
    ∙ ap (λ (me : Handle). brought inboxes me port) (c.wirings_carry_as_trees.ensures.root system handle time traffic net root turn.of)
