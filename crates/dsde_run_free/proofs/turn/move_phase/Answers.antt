use Rattle.std.proofs.Common.{◌∙◌, ◌-◌, ◌++◌, ℕ, ap, subst, arith, Err, Ok}
use Rattle.std.proofs.lemmas.Result.{err_from_is_err_and}
use Rattle.dsde_values.specs.Path.{root}
use Rattle.dsde_sim_tree.specs.given.formalism.System.{Ports}
use Rattle.dsde_sim_tree.specs.Told.{Tells, ◌then◌}
use Rattle.dsde_run.specs.given.system.Program.{system}
use Rattle.dsde_sim_tree.specs.Tree.{parts}
use Rattle.dsde_sim_tree.specs.Output.{outs_from}
use Rattle.dsde_sim_tree.specs.declared.step.TheConstants.{MOST_PARTS}
use Rattle.dsde_sim_tree.specs.Turn.{without_room}
use Rattle.dsde_sim_movers.specs.Movers.{move_each}
use Rattle.dsde_sim_movers.specs.Turns.{free_phase}
use Rattle.dsde_run.specs.given.sim_telling.lemmas_GoingOn.{goes-begin, goes-told, goes-step, goes-end, stops}
use Rattle.dsde_run_free.proofs.turn.move_phase.Goals as goal

pub move_each-requires-clause-seats : goal.move_each-requires-clause-seats
move_each-requires-clause-seats c = c.requires.seats _

pub returns-in_err-tree-clause-told : goal.returns-in_err-tree-clause-told
returns-in_err-tree-clause-told c =
    let e = err_from_is_err_and c.from_residual-in_err-tree.result c.from_residual-in_err-tree.ensures.1 in
    let s = system c.args.program.now in
    let whole = free_phase s c.args.tree c.args.time c.args.order c.args.sent in
    let step = move_each s root c.args.time c.args.order c.args.tree (MOST_PARTS - parts c.args.tree) in
    stops c.from_residual-in_err-tree.result c.in_err-tree.field-0.0 (e.1 ∙ ap Err e.2) whole step without_room
    c.args.events.now c.tell_outs.new.events c.move_each.new.events
    (goes-told whole (step then without_room) (outs_from 0 c.args.sent) c.args.events.now c.args.events.now c.tell_outs.new.events (goes-begin whole c.args.events.now)
    (c.in_ok-tell_outs.ensures.ok ∙ ap (λ (sent : Ports). c.args.events.now ++ outs_from 0 sent) c.as_slice.ensures))
    (subst (λ (n : ℕ). Tells (move_each s root c.args.time c.args.order c.args.tree (MOST_PARTS - n)) c.tell_outs.new.events c.move_each.new.events (Err c.in_err-tree.field-0.0))
    c.parts-room.ensures c.in_err-tree.ensures.told)

pub returns-clause-told : goal.returns-clause-told
returns-clause-told c =
    let s = system c.args.program.now in
    let whole = free_phase s c.args.tree c.args.time c.args.order c.args.sent in
    let step = move_each s root c.args.time c.args.order c.args.tree (MOST_PARTS - parts c.args.tree) in
    let tells : Tells step c.tell_outs.new.events c.move_each.new.events (Ok (c.in_ok-tree.tree, c.in_ok-tree._room)) =
    subst (λ (n : ℕ). Tells (move_each s root c.args.time c.args.order c.args.tree (MOST_PARTS - n)) c.tell_outs.new.events c.move_each.new.events (Ok (c.in_ok-tree.tree, c.in_ok-tree._room)))
    c.parts-room.ensures c.in_ok-tree.ensures.told in
    goes-end whole c.in_ok-tree.tree c.args.events.now c.move_each.new.events
    (goes-step whole step without_room c.args.events.now c.tell_outs.new.events c.move_each.new.events (c.in_ok-tree.tree, c.in_ok-tree._room)
    (goes-told whole (step then without_room) (outs_from 0 c.args.sent) c.args.events.now c.args.events.now c.tell_outs.new.events (goes-begin whole c.args.events.now)
    (c.in_ok-tell_outs.ensures.ok ∙ ap (λ (sent : Ports). c.args.events.now ++ outs_from 0 sent) c.as_slice.ensures))
    tells.0 tells.1)

pub returns-clause-stands : goal.returns-clause-stands
returns-clause-stands c =
    let tells = subst (λ (n : ℕ). Tells (move_each (system c.args.program.now) root c.args.time c.args.order c.args.tree (MOST_PARTS - n)) c.tell_outs.new.events c.move_each.new.events (Ok (c.in_ok-tree.tree, c.in_ok-tree._room)))
    c.parts-room.ensures c.in_ok-tree.ensures.told in
    let kept = c.room_is_kept.ensures.movers (system c.args.program.now) c.args.tree c.in_ok-tree.tree root c.args.time c.args.order (MOST_PARTS - parts c.args.tree) c.in_ok-tree._room tells.1 in
    let within = c.requires.stands.within in
    record { fits = c.in_ok-tree.ensures.fits; within = omega (arith, kept, within) }
