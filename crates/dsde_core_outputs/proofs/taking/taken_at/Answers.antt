use Rattle.std.proofs.Common.{List, ap, sym, ◌∙◌}
use Rattle.dsde_core_parcels.specs.declared.inbox.Get.{Get}
use Rattle.dsde_core_parcels.specs.declared.inbox.Inbox.{Inbox}
use Rattle.dsde_core_parcels.specs.Calling.{without_gets}
use Rattle.dsde_core_outputs.proofs.Emptying.{past-changed, set-changed}
use Rattle.dsde_core_outputs.proofs.taking.taken_at.Goals as goal

pub returns-in-Some-clause-left : goal.returns-in-Some-clause-left
returns-in-Some-clause-left c =
    set-changed c.args.inboxes.now c.args.index without_gets c.in-Some.inbox.now (record { target = c.in-Some.inbox.now.target; gets = c.replace.new.dest }) (sym c.in-Some.ensures.value)
    (ap (λ (gets : List Get). let own : Inbox = record { target = c.in-Some.inbox.now.target; gets = gets } in own) (c.replace.ensures.after ∙ c.new.ensures))

pub returns-in-None-clause-left : goal.returns-in-None-clause-left
returns-in-None-clause-left c = sym (past-changed c.args.inboxes.now c.args.index without_gets (sym c.in-None.ensures.value))
