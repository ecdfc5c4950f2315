use Rattle.std.proofs.Common.{◌∙◌, [], ◌∷◌, arith, Result, Ok, Err, map, ap, sym, subst}
use Rattle.std.proofs.lemmas.Result.{err_from_is_err_and}
use Rattle.dsde_sim_tree.specs.declared.event.Event.TheVariants.{Turn}
use Rattle.dsde_sim_tree.specs.declared.fault.TurnEnd.{TurnEnd}
use Rattle.dsde_sim_tree.specs.Told.{Tells, Told}
use Rattle.dsde_core_outputs.specs.given.system.Program.{system}
use Rattle.dsde_sim_tree.specs.declared.sim.Sim.{Sim}
use Rattle.dsde_sim_tree.specs.Turn.{turn}
use Rattle.dsde_core_moving.specs.given.sim_movers.Turns.{free_phase}
use Rattle.dsde_core_moving.specs.given.core_flat.lemmas_Fitting.{tree-named}
use Rattle.dsde_core_moving.specs.given.core_moves.flat_Flat.{Flat}
use Rattle.dsde_core_moving.specs.given.core_moves.Flat.{delivery_of, tree_of}
use Rattle.dsde_core_moving.specs.given.core_moves.Movers.{list_of, ports_of}
use Rattle.dsde_core.specs.Turned.{with_turn}
use Rattle.dsde_core.proofs.Phases.{entries-same, moved, phase-is, sent-err, told-more}
use Rattle.dsde_core.proofs.turning.turn.Goals as goal

pub returns-in_err-phase-clause-told : goal.returns-in_err-phase-clause-told
returns-in_err-phase-clause-told g c =
    let a = c.args in
    let e = err_from_is_err_and c.from_residual-in_err-phase.result c.from_residual-in_err-phase.ensures.1 in
    sent-err (system a.program.now) (tree_of a.flat.now) a.number a.time a.items.now (tree-named a.program.now (tree_of a.flat.now) c.requires.rests.stands.fits) c.turns_move_one_by_one.ensures a.events.now c.push.new.self c.in_ok-push.ensures.ok
    (with_turn c.turn_movers.new.flat c.from_residual-in_err-phase.result) c.in_err-phase.field-0.0 (ap (with_turn c.turn_movers.new.flat) (e.1 ∙ ap Err e.2)) c.in_err-phase.ensures.comes

pub returns-in_err-move_phase-clause-told : goal.returns-in_err-move_phase-clause-told
returns-in_err-move_phase-clause-told g c =
    let a = c.args in
    let e = err_from_is_err_and c.from_residual-in_err-move_phase.result c.from_residual-in_err-move_phase.ensures.1 in
    let same = ap (λ (flat : Flat). tree_of flat) c.in_ok-phase.ensures.same in
    let is = phase-is (system a.program.now) (tree_of a.flat.now) a.number a.time a.items.now (tree-named a.program.now (tree_of a.flat.now) c.requires.rests.stands.fits) c.turns_move_one_by_one.ensures a.events.now c.push.new.self c.in_ok-push.ensures.ok
    c.turn_movers.new.flat same (list_of c.in_ok-phase.phase.movers) c.in_ok-phase.ensures.movers.all (ports_of c.in_ok-phase.phase.sent) in
    moved (system a.program.now) (tree_of a.flat.now) a.number a.time a.items.now (tree-named a.program.now (tree_of a.flat.now) c.requires.rests.stands.fits) c.turns_move_one_by_one.ensures a.events.now c.push.new.self c.in_ok-push.ensures.ok
    (ports_of c.in_ok-phase.phase.sent) c.move_phase.new.events (with_turn c.move_phase.new.flat c.from_residual-in_err-move_phase.result) c.in_ok-phase.ensures.comes
    (subst (λ (step : Told Sim). Tells step c.push.new.self c.move_phase.new.events (with_turn c.move_phase.new.flat c.from_residual-in_err-move_phase.result)) is
    (subst (λ (result : Result Sim TurnEnd). Tells (free_phase (system a.program.now) (tree_of c.turn_movers.new.flat) a.time (map delivery_of (list_of c.in_ok-phase.phase.movers)) (ports_of c.in_ok-phase.phase.sent)) c.push.new.self c.move_phase.new.events result) (sym (ap (with_turn c.move_phase.new.flat) (e.1 ∙ ap Err e.2))) c.in_err-move_phase.ensures.told))

pub returns-clause-told : goal.returns-clause-told
returns-clause-told g c =
    let a = c.args in
    let same = ap (λ (flat : Flat). tree_of flat) c.in_ok-phase.ensures.same in
    let is = phase-is (system a.program.now) (tree_of a.flat.now) a.number a.time a.items.now (tree-named a.program.now (tree_of a.flat.now) c.requires.rests.stands.fits) c.turns_move_one_by_one.ensures a.events.now c.push.new.self c.in_ok-push.ensures.ok
    c.turn_movers.new.flat same (list_of c.in_ok-phase.phase.movers) c.in_ok-phase.ensures.movers.all (ports_of c.in_ok-phase.phase.sent) in
    subst (λ (after : Sim). Tells (turn (system a.program.now) (tree_of a.flat.now) a.number a.time a.items.now) a.events.now c.move_phase.new.events (Ok after)) (sym c.settle.ensures.tree)
    (moved (system a.program.now) (tree_of a.flat.now) a.number a.time a.items.now (tree-named a.program.now (tree_of a.flat.now) c.requires.rests.stands.fits) c.turns_move_one_by_one.ensures a.events.now c.push.new.self c.in_ok-push.ensures.ok
    (ports_of c.in_ok-phase.phase.sent) c.move_phase.new.events (Ok (tree_of c.move_phase.new.flat)) c.in_ok-phase.ensures.comes
    (subst (λ (step : Told Sim). Tells step c.push.new.self c.move_phase.new.events (Ok (tree_of c.move_phase.new.flat))) is c.in_ok-move_phase.ensures.told))

pub returns-clause-rests : goal.returns-clause-rests
returns-clause-rests g c = c.settle.ensures.rests c.args.program.now c.in_ok-move_phase.ensures.stands

pub returns-clause-paid : goal.returns-clause-paid
returns-clause-paid g c =
    let a = c.args in
    let S = system a.program.now in
    let same = ap (λ (flat : Flat). tree_of flat) c.in_ok-phase.ensures.same in
    let all = c.in_ok-phase.ensures.paid in
    let sent = all.2 in
    let more = told-more a.events.now (Turn a.number a.time ∷ []) c.push.new.self c.in_ok-push.ensures.ok in
    let entries = entries-same S a.time a.items.now (tree_of a.flat.now) (tree_of c.turn_movers.new.flat) (map delivery_of (list_of c.in_ok-phase.phase.movers)) same c.in_ok-phase.ensures.movers.all in
    (all.0, all.1, omega (arith, sent, more, entries, c.in_ok-move_phase.ensures.many, c.in_ok-move_phase.ensures.paid, c.settle.ensures.paid))
