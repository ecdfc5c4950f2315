use Rattle.std.proofs.Common.{sym, subst, Ok, true}
use Rattle.dsde_sim_tree.specs.Told.{Tells}
use Rattle.dsde_sim_moving.specs.given.sim_telling.lemmas_GoingOn.{goes-end}
use Rattle.dsde_sim_tree.specs.declared.sim.Sim.{Sim}
use Rattle.dsde_sim_tree.specs.declared.sim.Sim.TheVariants as sim
use Rattle.dsde_sim_moving.specs.given.system.Program.{system}
use Rattle.dsde_sim_movers.specs.Movers.{moves}
use Rattle.dsde_order.proofs.ByParts.{goes-as, leaf-stays-put}
use Rattle.dsde_order.proofs.moves.executive_moves.Goals as goal

pub returns-in-Leaf-clause-told : goal.returns-in-Leaf-clause-told
returns-in-Leaf-clause-told c =
    let s = system c.args.program.now in
    subst (λ (part : Sim). Tells (moves s true c.args.path.now c.args.time c.args.got part c.args.room) c.args.events.now c.args.events.now (Ok (sim.Leaf c.in-Leaf.leaf, c.args.room))) (sym c.in-Leaf.is)
    (goes-end _ (sim.Leaf c.in-Leaf.leaf, c.args.room) c.args.events.now c.args.events.now
    (goes-as _ _ c.args.events.now (leaf-stays-put s c.args.path.now c.args.time c.args.got c.args.room c.in-Leaf.leaf)))
