use Rattle.std.proofs.Common.{sym, ◌∙◌}
use Rattle.dsde_sim_changing.proofs.Walking.{keeps, drops, cuts}
use Rattle.dsde_sim_changing.proofs.splitting.split.Goals as goal

pub loop-kid-preserved-in_ok-push : goal.loop-kid-preserved-in_ok-push
loop-kid-preserved-in_ok-push c =
    keeps c.args.entries.now c.args.kids c.args.path.now c.args.room c.args.events.now c.loop-kid.kept c.loop-kid.room c.loop-kid.events
    c.loop-kid.rest.now c.from_name-rest.result.now c.loop-kid.kid-iterator.rest.items c.in-Some.kid c.next.new.self.rest.items
    c.loop-kid.invariant c.in-Some.ensures.steps.0 c.from_name-rest.ensures c.push.new.self (sym c.is_first.ensures ∙ c.if-is_first.true) c.in_ok-push.ensures.ok

pub returns-in_err-room-clause-cut : goal.returns-in_err-room-clause-cut
returns-in_err-room-clause-cut c =
    cuts c.args.entries.now c.args.kids c.args.path.now c.args.room c.args.events.now c.loop-kid.kept c.loop-kid.room c.loop-kid.events
    c.loop-kid.rest.now c.from_name-rest.result.now c.loop-kid.kid-iterator.rest.items c.in-Some.kid c.next.new.self.rest.items
    c.loop-kid.invariant c.in-Some.ensures.steps.0 c.from_name-rest.ensures (sym c.is_first.ensures ∙ c.if-is_first.false) c.drop_kid.new.events c.drop_kid.ensures.cut

pub loop-kid-preserved : goal.loop-kid-preserved
loop-kid-preserved c =
    drops c.args.entries.now c.args.kids c.args.path.now c.args.room c.args.events.now c.loop-kid.kept c.loop-kid.room c.loop-kid.events
    c.loop-kid.rest.now c.from_name-rest.result.now c.loop-kid.kid-iterator.rest.items c.in-Some.kid c.next.new.self.rest.items
    c.loop-kid.invariant c.in-Some.ensures.steps.0 c.from_name-rest.ensures (sym c.is_first.ensures ∙ c.if-is_first.false)
    c.in_ok-room.field-0 c.drop_kid.new.events c.in_ok-room.ensures.count c.in_ok-room.ensures.ok c.in_ok-room.ensures.cut
