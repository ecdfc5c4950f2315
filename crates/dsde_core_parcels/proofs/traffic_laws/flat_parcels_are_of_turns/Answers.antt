use Rattle.std.proofs.Common.{◌∙◌, ap, sym, subst}
use Rattle.dsde_routes_wiring.specs.declared.wiring.Wiring.{Wiring}
use Rattle.dsde_sim_tree.specs.declared.sim.Sim.TheVariants as sim
use Rattle.dsde_sim_tree.specs.Move.{ins_of}
use Rattle.dsde_sim_tree.specs.Output.{by_port}
use Rattle.dsde_core_moves.specs.given.system.Program.{system}
use Rattle.dsde_core_parcels.specs.Sent.{AreParcels}
use Rattle.dsde_core_parcels.specs.Traffic.{traffic_of}
use Rattle.dsde_core_parcels.proofs.Carrying.{came}
use Rattle.dsde_core_parcels.proofs.traffic_laws.flat_parcels_are_of_turns.Goals as goal

pub returns : goal.returns
returns c = λ model own top wiring net time items outlets first parcels carry sent are same order.
    let got = by_port (ins_of (system model) (sim.Net net)) items in
    let traffic = traffic_of (system model) own top time got in
    let law = c.flat_states_carry.ensures in
    record {
      named = carry.named;
      of = law.traffic model own top wiring net time got carry;
      came = ap traffic.sent (law.root model own top wiring net time got carry) ∙ came model own top wiring net time got carry;
      are = subst (λ (wired : Wiring). AreParcels traffic wired parcels) (sym (law.wiring model own top wiring net time got carry)) (record {
        own = law.handles model own top wiring net time got carry;
        have = law.ports model own top wiring net time got carry;
        tell = law.tell model own top wiring net time got carry;
        outlets = outlets;
        sent = sent;
        pushed = first;
        are = are;
        same = same;
        order = order;
      });
    }
