use Rattle.std.proofs.Common.{◌∙◌, ◌+◌, ◌-◌, ◌≤◌, ℕ, Result, Err, map, ap, sym, subst, arith}
use Rattle.std.proofs.lemmas.Result.{err_from_is_err_and}
use Rattle.dsde_values.specs.Path.{root}
use Rattle.dsde_sim_tree.specs.declared.fault.TurnEnd.{TurnEnd}
use Rattle.dsde_sim_tree.specs.Told.{Tells}
use Rattle.dsde_core_outputs.specs.given.system.Program.{system}
use Rattle.dsde_sim_tree.specs.declared.sim.Sim.{Sim}
use Rattle.dsde_sim_tree.specs.Output.{outs_from}
use Rattle.dsde_sim_tree.specs.Tree.{parts}
use Rattle.dsde_core_moving.specs.given.sim_movers.Turns.{free_phase}
use Rattle.dsde_core_moving.specs.given.sim_movers.Work.{entries_each}
use Rattle.dsde_core_moving.specs.given.core_moves.Flat.{delivery_of, tree_of}
use Rattle.dsde_core_moving.specs.given.core_moves.Movers.{list_of, ports_of}
use Rattle.dsde_core.specs.Turned.{with_turn}
use Rattle.dsde_core.proofs.Phases.{phase-err, phase-ok, told-more}
use Rattle.dsde_core.proofs.Resting.{live-is}
use Rattle.dsde_core.proofs.turning.move_phase.Goals as goal

pub overflow_sub-room : goal.overflow_sub-room
overflow_sub-room g c =
    let live = live-is c.args.program.now c.args.flat.now c.requires.stands in
    let within : parts (tree_of c.args.flat.now) ≤ 131072 = c.requires.within in
    omega (arith, c.live-room.ensures.count, live, within)

pub movers_move-requires-clause-room : goal.movers_move-requires-clause-room
movers_move-requires-clause-room g c =
    let live = live-is c.args.program.now c.args.flat.now c.requires.stands in
    let within : parts (tree_of c.args.flat.now) ≤ 131072 = c.requires.within in
    let room : parts (tree_of c.args.flat.now) + (131072 - c.live-room.result) ≤ 131072 = omega (arith, c.live-room.ensures.count, live, within) in
    room

pub returns-in_err-_room-clause-told : goal.returns-in_err-_room-clause-told
returns-in_err-_room-clause-told g c =
    let a = c.args in
    let e = err_from_is_err_and c.from_residual-in_err-_room.result c.from_residual-in_err-_room.ensures.1 in
    subst (λ (result : Result Sim TurnEnd). Tells (free_phase (system a.program.now) (tree_of a.flat.now) a.time (map delivery_of (list_of a.phase.movers)) (ports_of a.phase.sent)) a.events.now c.movers_move.new.events result)
    (sym (ap (with_turn c.movers_move.new.flat) (e.1 ∙ ap Err e.2)))
    (phase-err (system a.program.now) a.flat.now a.time (map delivery_of (list_of a.phase.movers)) (ports_of a.phase.sent) a.events.now c.tell_sent.new.events
    c.in_ok-tell_sent.ensures.ok (131072 - c.live-room.result)
    (ap (λ (n : ℕ). 131072 - n) (c.live-room.ensures.count ∙ live-is a.program.now a.flat.now c.requires.stands)) c.in_err-_room.field-0.0 c.movers_move.new.events c.in_err-_room.ensures.told)

pub returns-clause-told : goal.returns-clause-told
returns-clause-told g c =
    let a = c.args in
    phase-ok (system a.program.now) a.flat.now a.time (map delivery_of (list_of a.phase.movers)) (ports_of a.phase.sent) a.events.now c.tell_sent.new.events
    c.in_ok-tell_sent.ensures.ok (131072 - c.live-room.result)
    (ap (λ (n : ℕ). 131072 - n) (c.live-room.ensures.count ∙ live-is a.program.now a.flat.now c.requires.stands)) (tree_of c.movers_move.new.flat) c.in_ok-_room._room c.movers_move.new.events c.in_ok-_room.ensures.told

pub returns-clause-within : goal.returns-clause-within
returns-clause-within g c =
    let a = c.args in
    let kept = c.room_is_kept.ensures.movers (system a.program.now) (tree_of a.flat.now) (tree_of c.movers_move.new.flat) root a.time (map delivery_of (list_of a.phase.movers)) (131072 - c.live-room.result) c.in_ok-_room._room c.in_ok-_room.ensures.told.1 in
    let live = live-is a.program.now a.flat.now c.requires.stands in
    let within : parts (tree_of a.flat.now) ≤ 131072 = c.requires.within in
    let all : parts (tree_of c.movers_move.new.flat) ≤ 131072 = omega (arith, kept, c.live-room.ensures.count, live, within) in
    all

pub returns-clause-many : goal.returns-clause-many
returns-clause-many g c =
    let more = told-more c.args.events.now (outs_from 0 (ports_of c.args.phase.sent)) c.tell_sent.new.events c.in_ok-tell_sent.ensures.ok in
    omega (arith, more, c.in_ok-_room.ensures.many)

pub returns-clause-paid : goal.returns-clause-paid
returns-clause-paid g c =
    let a = c.args in
    let more = told-more a.events.now (outs_from 0 (ports_of a.phase.sent)) c.tell_sent.new.events c.in_ok-tell_sent.ensures.ok in
    let room = ap (λ (n : ℕ). 131072 - n) (c.live-room.ensures.count ∙ live-is a.program.now a.flat.now c.requires.stands) in
    let entries = ap (entries_each (system a.program.now) root a.time (map delivery_of (list_of a.phase.movers)) (tree_of a.flat.now)) room in
    omega (arith, more, entries, c.in_ok-_room.ensures.work)
