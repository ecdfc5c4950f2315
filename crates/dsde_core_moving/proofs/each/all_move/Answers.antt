use Rattle.std.proofs.Common.{◌≡◌, ◌∙◌, ℕ, ◌+◌, ◌*◌, ◌≤◌, List, length, Result, Err, map, ap, sym, subst, arith}
use Rattle.std.proofs.lemmas.Result.{err_from_is_err_and}
use Rattle.dsde_values.specs.Path.{root}
use Rattle.dsde_sim_tree.specs.declared.fault.TurnEnd.{TurnEnd}
use Rattle.dsde_sim_tree.specs.Told.{Tells}
use Rattle.dsde_sim_starting.specs.given.system.Program.{system}
use Rattle.dsde_sim_movers.specs.Movers.{move_each}
use Rattle.dsde_sim_movers.specs.Work.{entries_each, work}
use Rattle.dsde_core_moves.specs.declared.flat.Mover.{Mover}
use Rattle.dsde_core_moves.specs.Flat.{delivery_of, tree_of}
use Rattle.dsde_core_moving.specs.Restructured.{with_room}
use Rattle.dsde_core_moving.proofs.Going.{Gone, all-gone, all-scheduled, births-few, births-left, gone-none, next-called, next-fits, next-gone, next-stops, next-there, none-later, room-left}
use Rattle.dsde_core_moving.proofs.Priced.{entries-next}
use Rattle.dsde_core_moving.proofs.each.all_move.Goals as goal

pub loop-mover-init : goal.loop-mover-init
loop-mover-init g c =
    let a = c.args in
    let S = system a.program.now in
    let is : c.into_iter-mover-iterator.result.rest.items ≡ a.movers = cc in
    subst (λ (items : List Mover). Gone a.program.now a.time a.flat.now a.movers a.room a.events.now items a.flat.now a.room a.events.now
    × (a.looks.now + 4 * length a.flat.now.queue.pairs + 16 * work a.events.now + 4 * entries_each S root a.time (map delivery_of items) (tree_of a.flat.now) a.room
    ≤ a.looks.now + 4 * length a.flat.now.queue.pairs + 16 * work a.events.now + 4 * entries_each S root a.time (map delivery_of a.movers) (tree_of a.flat.now) a.room)
    × (length a.movers + work a.events.now ≤ length items + work a.events.now)) (sym is)
    (gone-none a.program.now a.time c.requires.movers.0 a.flat.now a.movers a.room a.events.now c.requires.stands c.requires.movers.1 c.requires.waits, omega arith, omega arith)

pub mover_steps-requires-clause-stands : goal.mover_steps-requires-clause-stands
mover_steps-requires-clause-stands g c = c.loop-mover.invariant.0.stands

pub mover_steps-requires-clause-there : goal.mover_steps-requires-clause-there
mover_steps-requires-clause-there g c =
    let a = c.args in
    next-there a.program.now a.time c.requires.movers.0 a.flat.now a.movers a.room a.events.now c.requires.stands c.requires.movers.1 c.loop-mover.mover-iterator.rest.items c.loop-mover.flat c.loop-mover.room c.loop-mover.events c.loop-mover.invariant.0
    c.in-Some.mover c.next.new.self.rest.items c.in-Some.ensures.steps.0

pub mover_steps-requires-clause-called : goal.mover_steps-requires-clause-called
mover_steps-requires-clause-called g c =
    let a = c.args in
    next-called a.program.now a.time c.requires.movers.0 a.flat.now a.movers a.room a.events.now c.requires.stands c.requires.movers.1 c.loop-mover.mover-iterator.rest.items c.loop-mover.flat c.loop-mover.room c.loop-mover.events c.loop-mover.invariant.0
    c.in-Some.mover c.next.new.self.rest.items c.in-Some.ensures.steps.0 c.movers_wait.ensures

pub mover_steps-requires-clause-fits : goal.mover_steps-requires-clause-fits
mover_steps-requires-clause-fits g c =
    let a = c.args in
    next-fits a.program.now a.time c.requires.movers.0 a.flat.now a.movers a.room a.events.now c.requires.stands c.requires.movers.1 c.loop-mover.mover-iterator.rest.items c.loop-mover.flat c.loop-mover.room c.loop-mover.events c.loop-mover.invariant.0
    c.in-Some.mover c.next.new.self.rest.items c.in-Some.ensures.steps.0 c.movers_wait.ensures

pub mover_steps-requires-clause-room : goal.mover_steps-requires-clause-room
mover_steps-requires-clause-room g c =
    let a = c.args in
    room-left a.program.now a.time c.requires.movers.0 a.flat.now a.movers a.room a.events.now c.requires.stands c.requires.movers.1 c.loop-mover.mover-iterator.rest.items c.loop-mover.flat c.loop-mover.room c.loop-mover.events c.loop-mover.invariant.0
    c.room_is_kept.ensures.movers c.requires.room

pub mover_steps-requires-clause-births : goal.mover_steps-requires-clause-births
mover_steps-requires-clause-births g c =
    let a = c.args in
    births-few a.program.now a.time c.requires.movers.0 a.flat.now a.movers a.room a.events.now c.requires.stands c.requires.movers.1 c.loop-mover.mover-iterator.rest.items c.loop-mover.flat c.loop-mover.room c.loop-mover.events c.loop-mover.invariant.0
    c.executives_are_few.ensures c.requires.room c.requires.births

pub loop-mover-preserved : goal.loop-mover-preserved
loop-mover-preserved g c =
    let a = c.args in
    let rest = c.loop-mover.mover-iterator.rest.items in
    let entries = entries-next (system a.program.now) a.time c.in-Some.mover c.next.new.self.rest.items rest (tree_of c.loop-mover.flat) (tree_of c.mover_steps.new.flat) c.loop-mover.room c.in_ok-room.room c.in-Some.ensures.steps.0 c.in_ok-room.ensures.told.1 in (
      next-gone a.program.now a.time c.requires.movers.0 a.flat.now a.movers a.room a.events.now c.requires.stands c.requires.movers.1 rest c.loop-mover.flat c.loop-mover.room c.loop-mover.events c.loop-mover.invariant.0
          c.in-Some.mover c.next.new.self.rest.items c.in-Some.ensures.steps.0 c.path_order_is_lawful.ensures c.mover_steps.new.flat c.in_ok-room.room c.mover_steps.new.events c.in_ok-room.ensures.told c.in_ok-room.ensures.stands c.in_ok-room.ensures.others
          c.in_ok-room.ensures.waits c.in_ok-room.ensures.births,
      omega (arith, entries, c.loop-mover.invariant.1, c.in_ok-room.ensures.work),
      (let one = ap length c.in-Some.ensures.steps.0 in omega (arith, one, c.loop-mover.invariant.2, c.in_ok-room.ensures.some)),
    )

pub returns-in_err-room-clause-told : goal.returns-in_err-room-clause-told
returns-in_err-room-clause-told g c =
    let a = c.args in
    let e = err_from_is_err_and c.from_residual.result c.from_residual.ensures.1 in
    subst (λ (result : Result ℕ TurnEnd). Tells (move_each (system a.program.now) root a.time (map delivery_of a.movers) (tree_of a.flat.now) a.room) a.events.now c.mover_steps.new.events (with_room c.mover_steps.new.flat result)) (sym (e.1 ∙ ap Err e.2))
    (next-stops a.program.now a.time c.requires.movers.0 a.flat.now a.movers a.room a.events.now c.requires.stands c.requires.movers.1 c.loop-mover.mover-iterator.rest.items c.loop-mover.flat c.loop-mover.room c.loop-mover.events c.loop-mover.invariant.0
    c.in-Some.mover c.next.new.self.rest.items c.in-Some.ensures.steps.0 c.in_err-room.field-0.0 c.mover_steps.new.events c.in_err-room.ensures.told)

pub returns-clause-told : goal.returns-clause-told
returns-clause-told g c =
    let a = c.args in
    all-gone a.program.now a.time c.requires.movers.0 a.flat.now a.movers a.room a.events.now c.requires.stands c.requires.movers.1 c.loop-mover.mover-iterator.rest.items c.loop-mover.flat c.loop-mover.room c.loop-mover.events c.loop-mover.invariant.0
    (none-later c.loop-mover.mover-iterator.rest.items c.loop-mover.mover-iterator.rest.len c.loop-mover.mover-iterator.rest.ok.0 c.in-None.ensures.steps.0)

pub returns-clause-stands : goal.returns-clause-stands
returns-clause-stands g c = c.loop-mover.invariant.0.stands

pub returns-clause-scheduled : goal.returns-clause-scheduled
returns-clause-scheduled g c =
    let a = c.args in
    all-scheduled a.program.now a.time c.requires.movers.0 a.flat.now a.movers a.room a.events.now c.requires.stands c.requires.movers.1 c.loop-mover.mover-iterator.rest.items c.loop-mover.flat c.loop-mover.room c.loop-mover.events c.loop-mover.invariant.0
    (none-later c.loop-mover.mover-iterator.rest.items c.loop-mover.mover-iterator.rest.len c.loop-mover.mover-iterator.rest.ok.0 c.in-None.ensures.steps.0)

pub returns-clause-births : goal.returns-clause-births
returns-clause-births g c =
    let a = c.args in
    births-left a.program.now a.time c.requires.movers.0 a.flat.now a.movers a.room a.events.now c.requires.stands c.requires.movers.1 c.loop-mover.mover-iterator.rest.items c.loop-mover.flat c.loop-mover.room c.loop-mover.events c.loop-mover.invariant.0
    c.executives_are_few.ensures c.requires.room

pub returns-clause-work : goal.returns-clause-work
returns-clause-work g c = omega (arith, c.loop-mover.invariant.1)

pub returns-clause-many : goal.returns-clause-many
returns-clause-many g c =
    let none = ap length (none-later c.loop-mover.mover-iterator.rest.items c.loop-mover.mover-iterator.rest.len c.loop-mover.mover-iterator.rest.ok.0 c.in-None.ensures.steps.0) in
    omega (arith, none, c.loop-mover.invariant.2)
