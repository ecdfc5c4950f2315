use Rattle.std.proofs.Common.{◌∙◌, ap, sym, subst, List, [], ◌∷◌, Err}
use Rattle.std.proofs.lemmas.Result.{err_from_is_err_and}
use Rattle.dsde_values.specs.Path.{root}
use Rattle.dsde_sim_tree.specs.declared.event.Event.TheVariants.{Turn}
use Rattle.dsde_sim_tree.specs.Told.{Tells, quietly, ◌then◌}
use Rattle.dsde_run.specs.given.system.Program.{system}
use Rattle.dsde_sim_tree.specs.Output.{output}
use Rattle.dsde_sim_movers.specs.Deliveries.{Delivery}
use Rattle.dsde_sim_movers.specs.Turns.{free_phase, turn_movers}
use Rattle.dsde_run.specs.given.sim_telling.lemmas_GoingOn.{goes-begin, goes-told, goes-ok, ends, lacks, tail}
use Rattle.dsde_order.specs.Free.{drawn_movers, drawn_turn}
use Rattle.dsde_run_free.specs.Drawn.{AreSeated}
use Rattle.dsde_run_free.proofs.Seated.{seated}
use Rattle.dsde_run_free.proofs.Turning.{drawn-here, ok-known}
use Rattle.dsde_run_free.proofs.turn.drawn_turn.Goals as goal

pub drawn_movers-requires-clause-answers : goal.drawn_movers-requires-clause-answers
drawn_movers-requires-clause-answers c = (c.in_ok-sent.sent, c.in_ok-sent.ensures.comes)

pub move_phase-requires-clause-seats : goal.move_phase-requires-clause-seats
move_phase-requires-clause-seats c room =
    let s = system c.args.program.now in
    let tree = c.args.tree in
    let time = c.args.time in
    let items = c.args.items.now in
    let named = c.fitting_trees_are_named.ensures c.args.program.now tree c.requires.stands.fits in
    let order = drawn_movers s tree time items c.args.words.now in
    let drawn = drawn-here c.drawn_orders_are_lawful.ensures s tree time items c.args.words.now named in
    let lawful = (c.lawful_orders_are_drawn.ensures root (turn_movers s tree time items) order).1 drawn in
    subst (λ (list : List Delivery). AreSeated s time list tree room) (sym c.in_ok-order.ensures.order)
    (seated s tree time items (λ after before later own rest left is law end. c.lawful_movers_wait.ensures s tree after time items before later own rest left named is law end)
    (c.deliveries_are_found.ensures s tree time items named) order drawn lawful.0 lawful.1 room)

pub returns-in_err-sent-clause-told : goal.returns-in_err-sent-clause-told
returns-in_err-sent-clause-told c =
    let e = err_from_is_err_and c.from_residual-in_err-sent.result c.from_residual-in_err-sent.ensures.1 in
    let s = system c.args.program.now in
    let whole = drawn_turn s c.args.tree c.args.number c.args.time c.args.items.now c.args.words.now in
    let next = free_phase s c.args.tree c.args.time (drawn_movers s c.args.tree c.args.time c.args.items.now c.args.words.now) in
    ends c.from_residual-in_err-sent.result c.in_err-sent.field-0.0 (e.1 ∙ ap Err e.2) whole
    (output s c.args.tree root c.args.time) next c.args.events.now c.push.new.self
    (goes-told whole (quietly (output s c.args.tree root c.args.time) then next) (Turn c.args.number c.args.time ∷ []) c.args.events.now c.args.events.now c.push.new.self
    (goes-begin whole c.args.events.now) c.in_ok-push.ensures.ok)
    c.in_err-sent.ensures.comes

pub returns-in_err-order-clause-told : goal.returns-in_err-order-clause-told
returns-in_err-order-clause-told c =
    let e = err_from_is_err_and c.from_residual-in_err-order.result c.from_residual-in_err-order.ensures.1 in
    let s = system c.args.program.now in
    let whole = drawn_turn s c.args.tree c.args.number c.args.time c.args.items.now c.args.words.now in
    let next = free_phase s c.args.tree c.args.time (drawn_movers s c.args.tree c.args.time c.args.items.now c.args.words.now) in
    lacks c.from_residual-in_err-order.result (e.1 ∙ ap Err e.2) whole (next c.in_ok-sent.sent) c.args.events.now c.push.new.self
    (goes-ok whole (output s c.args.tree root c.args.time) next c.args.events.now c.push.new.self c.in_ok-sent.sent
    (goes-told whole (quietly (output s c.args.tree root c.args.time) then next) (Turn c.args.number c.args.time ∷ []) c.args.events.now c.args.events.now c.push.new.self
    (goes-begin whole c.args.events.now) c.in_ok-push.ensures.ok) c.in_ok-sent.ensures.comes)

pub returns-clause-told : goal.returns-clause-told
returns-clause-told c =
    let s = system c.args.program.now in
    let whole = drawn_turn s c.args.tree c.args.number c.args.time c.args.items.now c.args.words.now in
    let next = free_phase s c.args.tree c.args.time (drawn_movers s c.args.tree c.args.time c.args.items.now c.args.words.now) in
    tail whole (next c.in_ok-sent.sent) c.args.events.now c.push.new.self c.move_phase.new.events c.move_phase.result
    (goes-ok whole (output s c.args.tree root c.args.time) next c.args.events.now c.push.new.self c.in_ok-sent.sent
    (goes-told whole (quietly (output s c.args.tree root c.args.time) then next) (Turn c.args.number c.args.time ∷ []) c.args.events.now c.args.events.now c.push.new.self
    (goes-begin whole c.args.events.now) c.in_ok-push.ensures.ok) c.in_ok-sent.ensures.comes)
    (subst (λ (order : List Delivery). Tells (free_phase s c.args.tree c.args.time order c.in_ok-sent.sent) c.push.new.self c.move_phase.new.events c.move_phase.result) c.in_ok-order.ensures.order c.move_phase.ensures.told)

pub returns-clause-words : goal.returns-clause-words
returns-clause-words c = ok-known c.move_phase.result _ c.in_ok-order.ensures.words
