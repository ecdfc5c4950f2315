use Rattle.std.proofs.Common.{List, sym, ap, ◌∙◌}
use Rattle.dsde_bank.specs.declared.handle.Handle.{Handle}
use Rattle.dsde_values.specs.Path.{root}
use Rattle.dsde_sim_working.specs.given.system.Program.{system}
use Rattle.dsde_sim_tree.specs.declared.sim.Sim.TheVariants as sim
use Rattle.dsde_sim_tree.specs.declared.sim.Sim.TheViews.{out-Net}
use Rattle.dsde_sim_tree.specs.Move.{ins_of}
use Rattle.dsde_sim_tree.specs.Output.{by_port}
use Rattle.dsde_core_parcels.specs.declared.inbox.Inbox.{Inbox}
use Rattle.dsde_core_parcels.specs.Brought.{brought}
use Rattle.dsde_core_parcels.specs.Delivered.{inboxes_of}
use Rattle.dsde_core_parcels.specs.Traffic.{handle_in, traffic_of}
use Rattle.dsde_core_outputs.proofs.Bringing.{spread-brings}
use Rattle.dsde_core_outputs.proofs.Sending.{sent-is}
use Rattle.dsde_core_outputs.proofs.called_laws.root_is_sent.Goals as goal

pub returns : goal.returns
returns c = λ model own top wiring net time items due inboxes filled sent is.
    let S = system model in
    let got = by_port (ins_of S (sim.Net net)) items in
    let top_is = c.flat_states_carry.ensures.root model own top wiring net time got filled.carry in
    sent-is S net root time sent is (brought inboxes top)
    (λ port.
    c.inboxes_are_sent.ensures S (handle_in top wiring) time (traffic_of S own top time got) net items filled.parcels filled.turn sent is port
    ∙ ap (λ (handle : Handle). brought (inboxes_of filled.parcels) handle port) top_is
    ∙ ap (λ (boxes : List Inbox). brought boxes top port) (sym filled.filled))
    ∙ sym (spread-brings top (S.network (out-Net net).model (out-Net net).args).outs inboxes)
