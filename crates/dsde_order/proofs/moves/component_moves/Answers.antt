use Rattle.std.proofs.Common.{◌∙◌, ap, sym, subst, Err, Ok, [], false}
use Rattle.std.proofs.lemmas.Result.{err_from_is_err_and}
use Rattle.dsde_sim_tree.specs.Told.{Tells, ◌then◌}
use Rattle.dsde_sim_moving.specs.given.sim_telling.lemmas_GoingOn.{goes-end, goes-step, stops}
use Rattle.dsde_sim_tree.specs.declared.sim.Sim.{Sim}
use Rattle.dsde_sim_tree.specs.declared.sim.Sim.TheVariants as sim
use Rattle.dsde_sim_tree.specs.Move.{move_leaf_at}
use Rattle.dsde_sim_tree.specs.Opened.{as_leaf}
use Rattle.dsde_sim_moving.specs.given.system.Program.{system}
use Rattle.dsde_sim_moving.specs.Fitting.{FitsTree}
use Rattle.dsde_sim_moving.specs.Fits.{leaf-tree, tree-leaf}
use Rattle.dsde_sim_movers.specs.Movers.{moves}
use Rattle.dsde_sim_movers.specs.lemmas.Seats.{leaf-moves-leaf}
use Rattle.dsde_order.specs.Seating.{FitsSeat}
use Rattle.dsde_order.proofs.ByParts.{goes-as, leaf-seat, net-stays-put}
use Rattle.dsde_order.proofs.moves.component_moves.Goals as goal

pub leaf_moves-requires-clause-leaf : goal.leaf_moves-requires-clause-leaf
leaf_moves-requires-clause-leaf c = leaf-tree c.args.program.now c.in-Leaf.leaf (subst (FitsTree c.args.program.now) c.in-Leaf.is c.requires.fits)

pub leaf_moves-requires-clause-got : goal.leaf_moves-requires-clause-got
leaf_moves-requires-clause-got c = leaf-seat c.args.program.now c.in-Leaf.leaf c.args.got (subst (λ (part : Sim). FitsSeat c.args.program.now [] false c.args.got part) c.in-Leaf.is c.requires.got)

pub returns-in_err-leaf-in-Leaf-clause-told : goal.returns-in_err-leaf-in-Leaf-clause-told
returns-in_err-leaf-in-Leaf-clause-told c =
    let e = err_from_is_err_and c.from_residual.result c.from_residual.ensures.1 in
    let s = system c.args.program.now in
    subst (λ (part : Sim). Tells (moves s false c.args.path.now c.args.time c.args.got part c.args.room) c.args.events.now c.leaf_moves.new.events c.from_residual.result) (sym c.in-Leaf.is)
    (stops c.from_residual.result c.in_err-leaf-in-Leaf.field-0.0 (e.1 ∙ ap Err e.2)
    (moves s false c.args.path.now c.args.time c.args.got (sim.Leaf c.in-Leaf.leaf) c.args.room)
    (move_leaf_at s c.in-Leaf.leaf c.args.path.now c.args.time c.args.got) (as_leaf c.args.room)
    c.args.events.now c.args.events.now c.leaf_moves.new.events
    (goes-as _ (move_leaf_at s c.in-Leaf.leaf c.args.path.now c.args.time c.args.got then as_leaf c.args.room) c.args.events.now
    (leaf-moves-leaf s c.args.path.now c.args.time c.args.got c.in-Leaf.leaf c.args.room))
    c.in_err-leaf-in-Leaf.ensures.told)

pub returns-in_ok-leaf-in-Leaf-clause-told : goal.returns-in_ok-leaf-in-Leaf-clause-told
returns-in_ok-leaf-in-Leaf-clause-told c =
    let s = system c.args.program.now in
    let whole = moves s false c.args.path.now c.args.time c.args.got (sim.Leaf c.in-Leaf.leaf) c.args.room in
    let after = c.in_ok-leaf-in-Leaf.leaf in
    subst (λ (part : Sim). Tells (moves s false c.args.path.now c.args.time c.args.got part c.args.room) c.args.events.now c.leaf_moves.new.events (Ok (sim.Leaf after, c.args.room))) (sym c.in-Leaf.is)
    (goes-end whole (sim.Leaf after, c.args.room) c.args.events.now c.leaf_moves.new.events
    (goes-step whole (move_leaf_at s c.in-Leaf.leaf c.args.path.now c.args.time c.args.got) (as_leaf c.args.room) c.args.events.now c.args.events.now c.leaf_moves.new.events after
    (goes-as whole (move_leaf_at s c.in-Leaf.leaf c.args.path.now c.args.time c.args.got then as_leaf c.args.room) c.args.events.now
    (leaf-moves-leaf s c.args.path.now c.args.time c.args.got c.in-Leaf.leaf c.args.room))
    c.in_ok-leaf-in-Leaf.ensures.told.0 c.in_ok-leaf-in-Leaf.ensures.told.1))

pub returns-in_ok-leaf-in-Leaf-clause-fits : goal.returns-in_ok-leaf-in-Leaf-clause-fits
returns-in_ok-leaf-in-Leaf-clause-fits c = tree-leaf c.args.program.now c.in_ok-leaf-in-Leaf.leaf c.in_ok-leaf-in-Leaf.ensures.fits

pub returns-in-Net-clause-told : goal.returns-in-Net-clause-told
returns-in-Net-clause-told c =
    let s = system c.args.program.now in
    subst (λ (part : Sim). Tells (moves s false c.args.path.now c.args.time c.args.got part c.args.room) c.args.events.now c.args.events.now (Ok (sim.Net c.in-Net.net, c.args.room))) (sym c.in-Net.is)
    (goes-end _ (sim.Net c.in-Net.net, c.args.room) c.args.events.now c.args.events.now
    (goes-as _ _ c.args.events.now (net-stays-put s c.args.path.now c.args.time c.args.got c.args.room c.in-Net.net)))
