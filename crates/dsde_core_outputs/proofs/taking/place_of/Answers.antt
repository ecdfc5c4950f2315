use Rattle.std.proofs.Common.{rules}
use Rattle.std.proofs.lemmas.Fn.{always_returns_same}
use Rattle.std.specs.Ordering.{nat_cmp}
use Rattle.dsde_core_parcels.specs.declared.inbox.Inbox.{Inbox}
use Rattle.dsde_core_outputs.proofs.Emptying.{found-one, found-other, not-found}
use Rattle.dsde_core_outputs.proofs.taking.place_of.Goals as goal

pub returns-then-inboxes-index : goal.returns-then-inboxes-index
returns-then-inboxes-index c =
    let by_birth = c.in-Ok.ensures.position (λ (inbox : Inbox). nat_cmp inbox.target.birth c.args.target.birth) (always_returns_same _ _ _ (λ a r after called. search rules)) in
    found-one c.args.inboxes.now c.requires c.args.target c.in-Ok.index c.in-Ok.ensures.bound by_birth c.index-inboxes-index.result c.if-inboxes-index.true

pub returns-else-inboxes-index : goal.returns-else-inboxes-index
returns-else-inboxes-index c =
    let by_birth = c.in-Ok.ensures.position (λ (inbox : Inbox). nat_cmp inbox.target.birth c.args.target.birth) (always_returns_same _ _ _ (λ a r after called. search rules)) in
    found-other c.args.inboxes.now c.requires c.args.target c.in-Ok.index c.in-Ok.ensures.bound by_birth c.index-inboxes-index.result c.if-inboxes-index.false

pub returns-in-Err : goal.returns-in-Err
returns-in-Err c =
    let by_birth = c.in-Err.ensures.position (λ (inbox : Inbox). nat_cmp inbox.target.birth c.args.target.birth) (always_returns_same _ _ _ (λ a r after called. search rules)) in
    not-found c.args.inboxes.now c.requires c.args.target c.in-Err.field-0 by_birth
