use Rattle.std.proofs.Common.{map, ◌∙◌, refl}
use Rattle.dsde_sim_working.specs.given.system.Program.{system}
use Rattle.dsde_sim_tree.specs.declared.sim.Sim.TheVariants as sim
use Rattle.dsde_sim_tree.specs.Move.{ins_of}
use Rattle.dsde_sim_tree.specs.Output.{by_port}
use Rattle.dsde_core_parcels.specs.lemmas.TrafficHeld.{root-is-net}
use Rattle.dsde_core_parcels.specs.Calling.{due_mover, emptied}
use Rattle.dsde_core_outputs.proofs.CalledTaking.{all-silent, due-apart, each-due, in-order, net-others, net-silent, threaded, told-left, told-stays}
use Rattle.dsde_core_outputs.proofs.called_laws.due_are_called.Goals as goal

pub returns-clause-due : goal.returns-clause-due
returns-clause-due c = λ model own top wiring net time items due inboxes filled.
    let each = each-due own time due filled.are_due in
    let none = root-is-net model own top wiring net time (by_port (ins_of (system model) (sim.Net net)) items) filled.carry in
    threaded (system model) own inboxes top due (net-others (system model) own time top none due each) (due-apart (system model) own time due filled.are_due.order each)

pub returns-clause-told : goal.returns-clause-told
returns-clause-told c = λ model own top wiring net time items due inboxes filled.
    let each = each-due own time due filled.are_due in
    let none = root-is-net model own top wiring net time (by_port (ins_of (system model) (sim.Net net)) items) filled.carry in
    told-left (system model) own time due (all-silent (system model) own time due each) (map (emptied top) inboxes)
    ∙ told-stays (system model) own time top (net-silent (system model) own time top none) inboxes

pub returns-clause-order : goal.returns-clause-order
returns-clause-order c = λ model own top wiring net time items due inboxes filled.
    in-order (due_mover (system model) own inboxes) (λ one. refl) due filled.are_due.order
