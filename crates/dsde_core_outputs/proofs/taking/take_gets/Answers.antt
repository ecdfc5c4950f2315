use Rattle.std.proofs.Common.{List, sym, subst}
use Rattle.dsde_core_parcels.specs.declared.inbox.Inbox.{Inbox}
use Rattle.dsde_core_parcels.specs.Brought.{Rise}
use Rattle.dsde_core_parcels.specs.Calling.{AreOthers, IsFor}
use Rattle.dsde_core_outputs.proofs.Emptying.{rise-emptied, taken-none, taken-there}
use Rattle.dsde_core_outputs.proofs.taking.take_gets.Goals as goal

pub returns-in-Some-clause-gets : goal.returns-in-Some-clause-gets
returns-in-Some-clause-gets c =
    (taken-there c.args.inboxes.now c.requires c.args.target c.in-Some.index (subst (λ (own : List Inbox). IsFor c.args.target own c.in-Some.index) c.as_slice.ensures c.in-Some.ensures)
    c.taken_at.result c.taken_at.new.inboxes c.taken_at.ensures.gets c.taken_at.ensures.left).0

pub returns-in-Some-clause-left : goal.returns-in-Some-clause-left
returns-in-Some-clause-left c =
    (taken-there c.args.inboxes.now c.requires c.args.target c.in-Some.index (subst (λ (own : List Inbox). IsFor c.args.target own c.in-Some.index) c.as_slice.ensures c.in-Some.ensures)
    c.taken_at.result c.taken_at.new.inboxes c.taken_at.ensures.gets c.taken_at.ensures.left).1

pub returns-in-Some-clause-rise : goal.returns-in-Some-clause-rise
returns-in-Some-clause-rise c =
    subst Rise (sym (taken-there c.args.inboxes.now c.requires c.args.target c.in-Some.index (subst (λ (own : List Inbox). IsFor c.args.target own c.in-Some.index) c.as_slice.ensures c.in-Some.ensures)
    c.taken_at.result c.taken_at.new.inboxes c.taken_at.ensures.gets c.taken_at.ensures.left).1)
    (rise-emptied c.args.target c.args.inboxes.now c.requires)

pub returns-in-None-clause-gets : goal.returns-in-None-clause-gets
returns-in-None-clause-gets c =
    (taken-none c.args.inboxes.now c.requires c.args.target (subst (AreOthers c.args.target) c.as_slice.ensures c.in-None.ensures) c.new.result c.new.ensures).0

pub returns-in-None-clause-left : goal.returns-in-None-clause-left
returns-in-None-clause-left c =
    (taken-none c.args.inboxes.now c.requires c.args.target (subst (AreOthers c.args.target) c.as_slice.ensures c.in-None.ensures) c.new.result c.new.ensures).1
