use Rattle.std.proofs.Common.{◌≡◌, List, map, Some, sym, subst}
use Rattle.dsde_values.specs.declared.name.Name.{Name}
use Rattle.dsde_values.specs.Path.{root}
use Rattle.dsde_sim_tree.specs.given.formalism.leaf_Leaf.{Leaf}
use Rattle.dsde_sim_working.specs.given.system.Program.{system}
use Rattle.dsde_sim_tree.specs.declared.sim.Sim.TheVariants as sim
use Rattle.dsde_sim_tree.specs.Move.{ins_of}
use Rattle.dsde_sim_tree.specs.Output.{by_port}
use Rattle.dsde_sim_working.specs.given.sim_movers.Movers.{leaf_at, seat_of}
use Rattle.dsde_core_parcels.specs.declared.inbox.Inbox.{Inbox}
use Rattle.dsde_core_parcels.specs.Brought.{Rise}
use Rattle.dsde_core_parcels.specs.Delivered.{IsCalled}
use Rattle.dsde_core_parcels.specs.Traffic.{handle_in, traffic_of}
use Rattle.dsde_core_parcels.specs.given.core_moves.Flat.{delivery_of}
use Rattle.dsde_core_outputs.proofs.Moving.{in-path-order, those}
use Rattle.dsde_core_outputs.proofs.called_laws.called_move.Goals as goal

pub returns : goal.returns
returns c = λ model own top wiring net time items due inboxes filled sent is list same sorted.
    let S = system model in
    let tree = sim.Net net in
    let handle = handle_in top wiring in
    let rise = subst Rise (sym filled.filled) (c.inboxes_are_received.ensures.rise filled.parcels filled.turn.are.order) in
    let apart = c.inboxes_are_apart.ensures inboxes rise in
    let paths = λ (names : List Name) (leaf : Leaf) (there : leaf_at (seat_of names) tree ≡ Some leaf). c.leaves_have_paths.ensures tree root names leaf there in
    c.called_are_movers.ensures S handle time (traffic_of S own top time (by_port (ins_of S tree) items)) net items filled.parcels filled.turn sent is (map delivery_of list)
    (in-path-order model own top wiring net time items due inboxes filled rise apart list same sorted)
    (λ delivery.
    let both = those model own top wiring net time items due inboxes filled rise apart list same sorted paths delivery in (
      λ there. subst (λ (boxes : List Inbox). IsCalled S handle tree time boxes delivery) filled.filled (both.0 there),
      λ called. both.1 (subst (λ (boxes : List Inbox). IsCalled S handle tree time boxes delivery) (sym filled.filled) called),
    ))
