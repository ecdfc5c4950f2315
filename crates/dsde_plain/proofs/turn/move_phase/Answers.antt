use Rattle.std.proofs.Common.{◌∙◌, ◌-◌, ◌++◌, ap, subst, ℕ, Err, Ok}
use Rattle.std.proofs.lemmas.Result.{err_from_is_err_and}
use Rattle.dsde_values.specs.declared.path.Path.{Path}
use Rattle.dsde_values.specs.Path.{root}
use Rattle.dsde_formalism.specs.System.{Ports}
use Rattle.dsde_sim_tree.specs.Told.{Tells, ◌then◌}
use Rattle.dsde_run.specs.given.system.Program.{system}
use Rattle.dsde_sim_tree.specs.Tree.{parts}
use Rattle.dsde_sim_tree.specs.Output.{outs_from}
use Rattle.dsde_sim_tree.specs.Move.{move}
use Rattle.dsde_sim_tree.specs.declared.step.TheConstants.{MOST_PARTS}
use Rattle.dsde_sim_tree.specs.Turn.{move_phase, without_room}
use Rattle.dsde_run.specs.given.sim_telling.lemmas_GoingOn.{goes-begin, goes-told, goes-step, goes-end, stops}
use Rattle.dsde_plain.proofs.turn.move_phase.Goals as goal

pub returns-in_err-tree-clause-told : goal.returns-in_err-tree-clause-told
returns-in_err-tree-clause-told c =
    let e = err_from_is_err_and c.from_residual-in_err-tree.result c.from_residual-in_err-tree.ensures.1 in
    let s = system c.args.program.now in
    let whole = move_phase s c.args.tree c.args.time c.args.got c.args.sent in
    let step = move s c.args.tree root c.args.time c.args.got (MOST_PARTS - parts c.args.tree) in
    stops c.from_residual-in_err-tree.result c.in_err-tree.field-0.0 (e.1 ∙ ap Err e.2) whole step without_room
    c.args.events.now c.tell_outs.new.events c.move_sim.new.events
    (goes-told whole (step then without_room) (outs_from 0 c.args.sent) c.args.events.now c.args.events.now c.tell_outs.new.events (goes-begin whole c.args.events.now)
    (c.in_ok-tell_outs.ensures.ok ∙ ap (λ (sent : Ports). c.args.events.now ++ outs_from 0 sent) c.as_slice.ensures))
    (subst (λ (p : Path). Tells (move s c.args.tree p c.args.time c.args.got (MOST_PARTS - parts c.args.tree)) c.tell_outs.new.events c.move_sim.new.events (Err c.in_err-tree.field-0.0)) c.in_ok-root.ensures
    (subst (λ (n : ℕ). Tells (move s c.args.tree c.in_ok-root.root c.args.time c.args.got (MOST_PARTS - n)) c.tell_outs.new.events c.move_sim.new.events (Err c.in_err-tree.field-0.0))
    c.parts-room.ensures c.in_err-tree.ensures.told))

pub returns-clause-told : goal.returns-clause-told
returns-clause-told c =
    let s = system c.args.program.now in
    let whole = move_phase s c.args.tree c.args.time c.args.got c.args.sent in
    let step = move s c.args.tree root c.args.time c.args.got (MOST_PARTS - parts c.args.tree) in
    let tells : Tells step c.tell_outs.new.events c.move_sim.new.events (Ok (c.in_ok-tree.tree, c.in_ok-tree._room)) =
    subst (λ (p : Path). Tells (move s c.args.tree p c.args.time c.args.got (MOST_PARTS - parts c.args.tree)) c.tell_outs.new.events c.move_sim.new.events (Ok (c.in_ok-tree.tree, c.in_ok-tree._room))) c.in_ok-root.ensures
    (subst (λ (n : ℕ). Tells (move s c.args.tree c.in_ok-root.root c.args.time c.args.got (MOST_PARTS - n)) c.tell_outs.new.events c.move_sim.new.events (Ok (c.in_ok-tree.tree, c.in_ok-tree._room)))
    c.parts-room.ensures c.in_ok-tree.ensures.told) in
    goes-end whole c.in_ok-tree.tree c.args.events.now c.move_sim.new.events
    (goes-step whole step without_room c.args.events.now c.tell_outs.new.events c.move_sim.new.events (c.in_ok-tree.tree, c.in_ok-tree._room)
    (goes-told whole (step then without_room) (outs_from 0 c.args.sent) c.args.events.now c.args.events.now c.tell_outs.new.events (goes-begin whole c.args.events.now)
    (c.in_ok-tell_outs.ensures.ok ∙ ap (λ (sent : Ports). c.args.events.now ++ outs_from 0 sent) c.as_slice.ensures))
    tells.0 tells.1)
