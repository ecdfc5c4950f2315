use Rattle.std.proofs.Common.{◌≡◌, ◌∙◌, List, ap, sym, subst, Err}
use Rattle.std.proofs.lemmas.Result.{err_from_is_err_and}
use Rattle.dsde_values.specs.Path.{root}
use Rattle.dsde_sim_tree.specs.Told.{Tells}
use Rattle.dsde_run.specs.given.system.Program.{system}
use Rattle.dsde_sim_movers.specs.Deliveries.{Delivery}
use Rattle.dsde_sim_movers.specs.Movers.{move_each}
use Rattle.dsde_run_free.proofs.Moving.{Gone, all-gone, few-left, gone-none, next-fits, next-gone, next-seat, next-stops, none-later}
use Rattle.dsde_run_free.proofs.moves.move_each.Goals as goal

pub loop-mover-init : goal.loop-mover-init
loop-mover-init c =
    let s = system c.args.program.now in
    let is : c.into_iter-mover-iterator.result.rest.items ≡ c.args.order = cc in
    subst (λ (items : List Delivery). Gone c.args.program.now s c.args.time c.args.order c.args.tree c.args.room c.args.events.now items c.args.tree c.args.room c.args.events.now) (sym is)
    (gone-none c.args.program.now s c.args.time c.args.order c.args.tree c.args.room c.args.events.now c.requires.fits c.requires.movers)

pub loop-mover-preserved : goal.loop-mover-preserved
loop-mover-preserved c =
    next-gone c.args.program.now (system c.args.program.now) c.args.time c.args.order c.args.tree c.args.room c.args.events.now c.loop-mover.mover-iterator.rest.items c.loop-mover.tree c.loop-mover.room c.loop-mover.events c.loop-mover.invariant
    c.in-Some.mover c.next.new.self.rest.items c.in-Some.ensures.steps.0 c.in_ok-after.after c.in_ok-after.left c.move_one.new.events c.in_ok-after.ensures.told c.in_ok-after.ensures.fits c.in_ok-after.ensures.model

pub move_one-requires-clause-few : goal.move_one-requires-clause-few
move_one-requires-clause-few c =
    few-left c.args.program.now (system c.args.program.now) c.args.time c.args.order c.args.tree c.args.room c.args.events.now c.loop-mover.mover-iterator.rest.items c.loop-mover.tree c.loop-mover.room c.loop-mover.events c.loop-mover.invariant
    c.room_is_kept.ensures.movers c.requires.few

pub move_one-requires-clause-fits : goal.move_one-requires-clause-fits
move_one-requires-clause-fits c = c.loop-mover.invariant.fits

pub move_one-requires-clause-mover : goal.move_one-requires-clause-mover
move_one-requires-clause-mover c =
    next-fits c.args.program.now (system c.args.program.now) c.args.time c.args.order c.args.tree c.args.room c.args.events.now c.loop-mover.mover-iterator.rest.items c.loop-mover.tree c.loop-mover.room c.loop-mover.events c.loop-mover.invariant
    c.in-Some.mover c.next.new.self.rest.items c.in-Some.ensures.steps.0

pub move_one-requires-clause-seat : goal.move_one-requires-clause-seat
move_one-requires-clause-seat c =
    next-seat c.args.program.now (system c.args.program.now) c.args.time c.args.order c.args.tree c.args.room c.args.events.now c.loop-mover.mover-iterator.rest.items c.loop-mover.tree c.loop-mover.room c.loop-mover.events c.loop-mover.invariant
    c.in-Some.mover c.next.new.self.rest.items c.in-Some.ensures.steps.0 c.requires.seats

pub returns-in_err-after-clause-told : goal.returns-in_err-after-clause-told
returns-in_err-after-clause-told c =
    let e = err_from_is_err_and c.from_residual.result c.from_residual.ensures.1 in
    subst (λ result. Tells (move_each (system c.args.program.now) root c.args.time c.args.order c.args.tree c.args.room) c.args.events.now c.move_one.new.events result) (sym (e.1 ∙ ap Err e.2))
    (next-stops c.args.program.now (system c.args.program.now) c.args.time c.args.order c.args.tree c.args.room c.args.events.now c.loop-mover.mover-iterator.rest.items c.loop-mover.tree c.loop-mover.room c.loop-mover.events c.loop-mover.invariant
    c.in-Some.mover c.next.new.self.rest.items c.in-Some.ensures.steps.0 c.in_err-after.field-0.0 c.move_one.new.events c.in_err-after.ensures.told)

pub returns-clause-told : goal.returns-clause-told
returns-clause-told c =
    all-gone c.args.program.now (system c.args.program.now) c.args.time c.args.order c.args.tree c.args.room c.args.events.now c.loop-mover.mover-iterator.rest.items c.loop-mover.tree c.loop-mover.room c.loop-mover.events c.loop-mover.invariant
    (none-later c.loop-mover.mover-iterator.rest.items c.loop-mover.mover-iterator.rest.len c.loop-mover.mover-iterator.rest.ok.0 c.in-None.ensures.steps.0)

pub returns-clause-fits : goal.returns-clause-fits
returns-clause-fits c = c.loop-mover.invariant.fits

pub returns-clause-model : goal.returns-clause-model
returns-clause-model c = c.loop-mover.invariant.model_is
