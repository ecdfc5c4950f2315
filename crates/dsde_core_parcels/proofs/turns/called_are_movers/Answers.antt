use Rattle.std.proofs.Common.{◌≡◌, List, Some, sym, subst}
use Rattle.std.specs.Prelude.{Contains}
use Rattle.dsde_values.specs.declared.name.Name.{Name}
use Rattle.dsde_values.specs.declared.path.Path.{Path}
use Rattle.dsde_values.specs.Path.{root}
use Rattle.dsde_sim_tree.specs.given.formalism.leaf_Leaf.{Leaf}
use Rattle.dsde_sim_tree.specs.declared.sim.Sim.TheVariants as sim
use Rattle.dsde_sim_tree.specs.Move.{ins_of}
use Rattle.dsde_sim_tree.specs.Output.{by_port}
use Rattle.dsde_routes_pushing.specs.given.sim_movers.Deliveries.{deliveries}
use Rattle.dsde_routes_pushing.specs.given.sim_movers.Movers.{leaf_at, path_behind, seat_of}
use Rattle.dsde_core_parcels.specs.Delivered.{inboxes_of}
use Rattle.dsde_core_parcels.proofs.Calling.{called-moves, moves-called}
use Rattle.dsde_core_parcels.proofs.turns.called_are_movers.Goals as goal

pub returns : goal.returns
returns c = λ system handle time traffic net items parcels turn sent output-is list order each.
    let tree = sim.Net net in
    let got = by_port (ins_of system tree) items in
    let inboxes = inboxes_of parcels in
    let all = deliveries system tree root time got in
    let found = c.deliveries_are_found.ensures system tree time items turn.named in
    let brought = c.inboxes_are_delivered.ensures system handle time traffic net items parcels turn in
    let paths = λ (names : List Name) (leaf : Leaf) (there : leaf_at (seat_of names) tree ≡ Some leaf). subst (λ (list : List Path). Contains list (path_behind root names)) (sym (c.leaves_have_deliveries.ensures system tree time got sent output-is)) (c.leaves_have_paths.ensures tree root names leaf there) in
    c.movers_are_those.ensures system tree time items sent list turn.named output-is order
    (λ delivery. (
      λ there. called-moves system handle tree time got inboxes all found brought paths delivery ((each delivery).0 there),
      λ moves. (each delivery).1 (moves-called system handle tree time got inboxes all found brought paths delivery moves),
    ))
