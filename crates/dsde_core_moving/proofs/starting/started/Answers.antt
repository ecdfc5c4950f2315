use Rattle.std.proofs.Common.{[], Err, ap, ◌∙◌}
use Rattle.std.proofs.lemmas.Result.{err_from_is_err_and}
use Rattle.dsde_sim_starting.specs.given.system.Program.{system}
use Rattle.dsde_sim_starting.specs.given.sim_telling.lemmas_GoingOn.{lacks, stops}
use Rattle.dsde_sim_tree.specs.Start.{start, started_kid, starts}
use Rattle.dsde_sim_starting.proofs.Going.{goes-here, goes-on, start-one, starts_behind}
use Rattle.dsde_core_moving.proofs.starting.started.Goals as goal

pub returns-in_err-kid-clause-told : goal.returns-in_err-kid-clause-told
returns-in_err-kid-clause-told c =
    let e = err_from_is_err_and c.from_residual.result c.from_residual.ensures.1 in
    let starter = start (system c.args.program.now) c.args.left in
    stops c.from_residual.result c.in_err-kid.field-0.0 (e.1 ∙ ap Err e.2)
    (starts starter c.args.entries c.args.path.now c.args.time c.args.room [])
    (started_kid starter c.in-Some.entry c.args.path.now c.args.time c.loop-entry.room)
    (starts_behind starter c.next.new.self.rest.items c.args.path.now c.args.time c.loop-entry.done)
    c.args.events.now c.loop-entry.events c.start_kid.new.events
    (goes-here c.args.program.now starter c.args.entries c.args.path.now c.args.time c.args.room c.args.events.now
    c.loop-entry.done c.loop-entry.room c.loop-entry.events c.loop-entry.entry-iterator.rest.items c.loop-entry.invariant
    c.in-Some.entry c.next.new.self.rest.items c.in-Some.ensures.steps.0)
    c.in_err-kid.ensures.told

pub returns-in_err-push-clause-told : goal.returns-in_err-push-clause-told
returns-in_err-push-clause-told c =
    let e = err_from_is_err_and c.from_residual-in_err-push.result c.from_residual-in_err-push.ensures.1 in
    let starter = start (system c.args.program.now) c.args.left in
    lacks c.from_residual-in_err-push.result (e.1 ∙ ap Err e.2)
    (starts starter c.args.entries c.args.path.now c.args.time c.args.room [])
    (starts_behind starter c.next.new.self.rest.items c.args.path.now c.args.time c.loop-entry.done (c.in_ok-kid.kid, c.in_ok-kid.rest))
    c.args.events.now c.start_kid.new.events
    (goes-on c.args.program.now starter c.args.entries c.args.path.now c.args.time c.args.room c.args.events.now
    c.loop-entry.done c.loop-entry.room c.loop-entry.events c.loop-entry.entry-iterator.rest.items c.loop-entry.invariant
    c.in-Some.entry c.next.new.self.rest.items c.in-Some.ensures.steps.0
    c.start_kid.new.events c.in_ok-kid.kid c.in_ok-kid.rest c.in_ok-kid.ensures.told.0 c.in_ok-kid.ensures.told.1)

pub loop-entry-preserved : goal.loop-entry-preserved
loop-entry-preserved c =
    let starter = start (system c.args.program.now) c.args.left in
    start-one c.args.program.now starter c.args.entries c.args.path.now c.args.time c.args.room c.args.events.now
    c.loop-entry.done c.loop-entry.room c.loop-entry.events c.loop-entry.entry-iterator.rest.items c.loop-entry.invariant
    c.in-Some.entry c.next.new.self.rest.items c.in-Some.ensures.steps.0
    c.start_kid.new.events c.in_ok-kid.kid c.in_ok-kid.rest c.in_ok-kid.ensures.told.0 c.in_ok-kid.ensures.told.1
    c.push.new.self c.in_ok-kid.ensures.room c.in_ok-kid.ensures.fits c.in_ok-kid.ensures.is c.in_ok-push.ensures.ok
