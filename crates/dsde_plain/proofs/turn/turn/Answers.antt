use Rattle.std.proofs.Common.{◌∙◌, ap, subst, [], ◌∷◌, Err}
use Rattle.std.proofs.lemmas.Result.{err_from_is_err_and}
use Rattle.dsde_values.specs.Path.{root}
use Rattle.dsde_formalism.specs.System.{Ports}
use Rattle.dsde_sim_tree.specs.declared.event.Event.TheVariants.{Turn}
use Rattle.dsde_sim_tree.specs.Told.{Tells, quietly, ◌then◌}
use Rattle.dsde_run.specs.given.system.Program.{system}
use Rattle.dsde_sim_tree.specs.Output.{by_port, output}
use Rattle.dsde_sim_tree.specs.Move.{ins_of}
use Rattle.dsde_sim_tree.specs.Turn.{turn, move_phase}
use Rattle.dsde_run.specs.given.sim_telling.lemmas_GoingOn.{goes-begin, goes-told, goes-ok, ends, lacks, tail}
use Rattle.dsde_plain.proofs.turn.turn.Goals as goal

pub returns-in_err-sent-clause-told : goal.returns-in_err-sent-clause-told
returns-in_err-sent-clause-told c =
    let e = err_from_is_err_and c.from_residual-in_err-sent.result c.from_residual-in_err-sent.ensures.1 in
    let s = system c.args.program.now in
    let whole = turn s c.args.tree c.args.number c.args.time c.args.items.now in
    let next = move_phase s c.args.tree c.args.time (by_port (ins_of s c.args.tree) c.args.items.now) in
    ends c.from_residual-in_err-sent.result c.in_err-sent.field-0.0 (e.1 ∙ ap Err e.2) whole
    (output s c.args.tree root c.args.time) next c.args.events.now c.push.new.self
    (goes-told whole (quietly (output s c.args.tree root c.args.time) then next) (Turn c.args.number c.args.time ∷ []) c.args.events.now c.args.events.now c.push.new.self
    (goes-begin whole c.args.events.now) c.in_ok-push.ensures.ok)
    c.in_err-sent.ensures.comes

pub returns-in_err-got-clause-told : goal.returns-in_err-got-clause-told
returns-in_err-got-clause-told c =
    let e = err_from_is_err_and c.from_residual-in_err-got.result c.from_residual-in_err-got.ensures.1 in
    let s = system c.args.program.now in
    let whole = turn s c.args.tree c.args.number c.args.time c.args.items.now in
    let next = move_phase s c.args.tree c.args.time (by_port (ins_of s c.args.tree) c.args.items.now) in
    lacks c.from_residual-in_err-got.result (e.1 ∙ ap Err e.2) whole (next c.in_ok-sent.sent) c.args.events.now c.push.new.self
    (goes-ok whole (output s c.args.tree root c.args.time) next c.args.events.now c.push.new.self c.in_ok-sent.sent
    (goes-told whole (quietly (output s c.args.tree root c.args.time) then next) (Turn c.args.number c.args.time ∷ []) c.args.events.now c.args.events.now c.push.new.self
    (goes-begin whole c.args.events.now) c.in_ok-push.ensures.ok) c.in_ok-sent.ensures.comes)

pub returns-clause-told : goal.returns-clause-told
returns-clause-told c =
    let s = system c.args.program.now in
    let whole = turn s c.args.tree c.args.number c.args.time c.args.items.now in
    let next = move_phase s c.args.tree c.args.time (by_port (ins_of s c.args.tree) c.args.items.now) in
    tail whole (next c.in_ok-sent.sent) c.args.events.now c.push.new.self c.move_phase.new.events c.move_phase.result
    (goes-ok whole (output s c.args.tree root c.args.time) next c.args.events.now c.push.new.self c.in_ok-sent.sent
    (goes-told whole (quietly (output s c.args.tree root c.args.time) then next) (Turn c.args.number c.args.time ∷ []) c.args.events.now c.args.events.now c.push.new.self
    (goes-begin whole c.args.events.now) c.in_ok-push.ensures.ok) c.in_ok-sent.ensures.comes)
    (subst (λ (got : Ports). Tells (move_phase s c.args.tree c.args.time got c.in_ok-sent.sent) c.push.new.self c.move_phase.new.events c.move_phase.result) c.in_ok-got.ensures.value c.move_phase.ensures.told)
