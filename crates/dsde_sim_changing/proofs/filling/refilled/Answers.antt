use Rattle.std.proofs.Common.{ℕ, ◌∙◌, ap, subst, Ok, Err, []}
use Rattle.std.proofs.lemmas.Result.{err_from_is_err_and}
use Rattle.dsde_sim_tree.specs.Told.{Tells}
use Rattle.dsde_sim_starting.specs.given.sim_telling.lemmas_GoingOn.{stops, lacks}
use Rattle.dsde_sim_starting.specs.given.system.Program.{system}
use Rattle.dsde_sim_starting.specs.given.system.Plans.{FitsEntry}
use Rattle.dsde_sim_starting.specs.Fitting.{FitsKid}
use Rattle.dsde_sim_tree.specs.Start.{start}
use Rattle.dsde_sim_tree.specs.Move.{refilled, left_behind}
use Rattle.dsde_sim_changing.specs.Survivors.{filled}
use Rattle.dsde_sim_changing.proofs.Refilling.{survivor-is, goes-here, goes-on, fills, filled_behind}
use Rattle.dsde_sim_changing.proofs.filling.refilled.Goals as goal

pub filled-requires-clause-is : goal.filled-requires-clause-is
filled-requires-clause-is c =
    survivor-is (FitsEntry c.args.program.now) (FitsKid c.args.program.now) (start (system c.args.program.now) (left_behind c.args.path.now)) c.args.entries c.args.kept c.args.path.now c.args.time c.args.room c.args.events.now
    c.loop-entry.done c.loop-entry.room c.loop-entry.events c.loop-entry.entry-iterator.rest.items c.loop-entry.survivors.items c.loop-entry.invariant
    c.in-Some.entry c.next.new.self.rest.items c.in-Some.ensures.steps.0
    c.take_next-survivor.result c.take_next-survivor.new.kids.items c.take_next-survivor.ensures.all c.take_next-survivor.ensures.named
    c.survivors_keep_their_roles.ensures.exact

pub returns-in_err-kid-clause-told : goal.returns-in_err-kid-clause-told
returns-in_err-kid-clause-told c =
    let e = err_from_is_err_and c.from_residual.result c.from_residual.ensures.1 in
    let starter = start (system c.args.program.now) (left_behind c.args.path.now) in
    stops c.from_residual.result c.in_err-kid.field-0.0 (e.1 ∙ ap Err e.2)
    (refilled starter c.args.entries c.args.kept c.args.path.now c.args.time c.args.room [])
    (filled starter c.in-Some.entry c.take_next-survivor.result c.args.path.now c.args.time c.loop-entry.room)
    (filled_behind starter c.next.new.self.rest.items c.take_next-survivor.new.kids.items c.args.path.now c.args.time c.loop-entry.done)
    c.args.events.now c.loop-entry.events c.filled.new.events
    (goes-here (FitsEntry c.args.program.now) (FitsKid c.args.program.now) starter c.args.entries c.args.kept c.args.path.now c.args.time c.args.room c.args.events.now
    c.loop-entry.done c.loop-entry.room c.loop-entry.events c.loop-entry.entry-iterator.rest.items c.loop-entry.survivors.items c.loop-entry.invariant
    c.in-Some.entry c.next.new.self.rest.items c.in-Some.ensures.steps.0
    c.take_next-survivor.result c.take_next-survivor.new.kids.items c.take_next-survivor.ensures.all c.take_next-survivor.ensures.named)
    (subst (λ (left : ℕ). Tells (filled (start (system c.args.program.now) left) c.in-Some.entry c.take_next-survivor.result c.args.path.now c.args.time c.loop-entry.room) c.loop-entry.events c.filled.new.events (Err c.in_err-kid.field-0.0))
    c.left_behind-left.ensures c.in_err-kid.ensures.told)

pub loop-entry-preserved : goal.loop-entry-preserved
loop-entry-preserved c =
    let starter = start (system c.args.program.now) (left_behind c.args.path.now) in
    let told = subst (λ (left : ℕ). Tells (filled (start (system c.args.program.now) left) c.in-Some.entry c.take_next-survivor.result c.args.path.now c.args.time c.loop-entry.room) c.loop-entry.events c.filled.new.events (Ok (c.in_ok-kid.kid, c.in_ok-kid.rest)))
    c.left_behind-left.ensures c.in_ok-kid.ensures.told in
    fills (FitsEntry c.args.program.now) (FitsKid c.args.program.now) starter c.args.entries c.args.kept c.args.path.now c.args.time c.args.room c.args.events.now
    c.loop-entry.done c.loop-entry.room c.loop-entry.events c.loop-entry.entry-iterator.rest.items c.loop-entry.survivors.items c.loop-entry.invariant
    c.in-Some.entry c.next.new.self.rest.items c.in-Some.ensures.steps.0
    c.take_next-survivor.result c.take_next-survivor.new.kids.items c.take_next-survivor.ensures.all c.take_next-survivor.ensures.named
    c.filled.new.events c.in_ok-kid.kid c.in_ok-kid.rest told.0 told.1
    c.push.new.self c.in_ok-kid.ensures.room c.in_ok-kid.ensures.fits c.in_ok-kid.ensures.is c.in_ok-push.ensures.ok

pub returns-in_err-push-clause-told : goal.returns-in_err-push-clause-told
returns-in_err-push-clause-told c =
    let e = err_from_is_err_and c.from_residual-in_err-push.result c.from_residual-in_err-push.ensures.1 in
    let starter = start (system c.args.program.now) (left_behind c.args.path.now) in
    let told = subst (λ (left : ℕ). Tells (filled (start (system c.args.program.now) left) c.in-Some.entry c.take_next-survivor.result c.args.path.now c.args.time c.loop-entry.room) c.loop-entry.events c.filled.new.events (Ok (c.in_ok-kid.kid, c.in_ok-kid.rest)))
    c.left_behind-left.ensures c.in_ok-kid.ensures.told in
    lacks c.from_residual-in_err-push.result (e.1 ∙ ap Err e.2)
    (refilled starter c.args.entries c.args.kept c.args.path.now c.args.time c.args.room [])
    (filled_behind starter c.next.new.self.rest.items c.take_next-survivor.new.kids.items c.args.path.now c.args.time c.loop-entry.done (c.in_ok-kid.kid, c.in_ok-kid.rest))
    c.args.events.now c.filled.new.events
    (goes-on (FitsEntry c.args.program.now) (FitsKid c.args.program.now) starter c.args.entries c.args.kept c.args.path.now c.args.time c.args.room c.args.events.now
    c.loop-entry.done c.loop-entry.room c.loop-entry.events c.loop-entry.entry-iterator.rest.items c.loop-entry.survivors.items c.loop-entry.invariant
    c.in-Some.entry c.next.new.self.rest.items c.in-Some.ensures.steps.0
    c.take_next-survivor.result c.take_next-survivor.new.kids.items c.take_next-survivor.ensures.all c.take_next-survivor.ensures.named
    c.filled.new.events c.in_ok-kid.kid c.in_ok-kid.rest told.0 told.1)
