use Rattle.std.proofs.Common.{subst, sym}
use Rattle.dsde_values.specs.Path.{root}
use Rattle.dsde_sim_tree.specs.Told.{Tells}
use Rattle.dsde_run.specs.given.system.Program.{system}
use Rattle.dsde_sim_movers.specs.Deliveries.{Delivery}
use Rattle.dsde_sim_movers.specs.Movers.{move_one}
use Rattle.dsde_order.specs.Walking.{FitsDelivery}
use Rattle.dsde_run_free.specs.Drawn.{HasSeat}
use Rattle.dsde_run_free.proofs.Seated.{one-moves, seat-fits}
use Rattle.dsde_run_free.proofs.moves.move_one.Goals as goal

pub step-requires-clause-got : goal.step-requires-clause-got
step-requires-clause-got c =
    let own : Delivery = record { path = c.mover.inside.path; model = c.mover.inside.model; ports = c.mover.inside.ports } in
    seat-fits own c.seat_of-is_boss.result.0.now c.seat_of-is_boss.result.1 c.seat_of-is_boss.ensures.names c.seat_of-is_boss.ensures.boss c.args.program.now c.args.tree
    (subst (HasSeat c.args.tree) (sym c.mover.view_is) c.requires.seat) (subst (FitsDelivery c.args.program.now) (sym c.mover.view_is) c.requires.mover)

pub step-requires-clause-ports : goal.step-requires-clause-ports
step-requires-clause-ports c = (subst (FitsDelivery c.args.program.now) (sym c.mover.view_is) c.requires.mover).few

pub returns-clause-told : goal.returns-clause-told
returns-clause-told c =
    let s = system c.args.program.now in
    let own : Delivery = record { path = c.mover.inside.path; model = c.mover.inside.model; ports = c.mover.inside.ports } in
    subst (λ (mover : Delivery). Tells (move_one s root c.args.time mover c.args.tree c.args.room) c.args.events.now c.step.new.events c.step.result) c.mover.view_is
    (subst (λ whole. Tells whole c.args.events.now c.step.new.events c.step.result)
    (one-moves own c.seat_of-is_boss.result.0.now c.seat_of-is_boss.result.1 c.seat_of-is_boss.ensures.names c.seat_of-is_boss.ensures.boss s c.args.time c.args.tree c.args.room c.in_ok-part.part c.in_ok-part.ensures)
    c.step.ensures.told)
