use Rattle.std.proofs.Common.{sym}
use Rattle.dsde_eval_short.specs.Changes.{made_by}
use Rattle.dsde_eval_short.proofs.InSlot.{may-change, changed-there, kept-there}
use Rattle.dsde_eval_short.proofs.in_slot.change_slot.Goals as goal

pub change_list-requires : goal.change_list-requires
change_list-requires c = may-change c.args.slot c.args.slots.now c.args.sends.now (λ list. made_by c.args.which c.args.at list c.args.own) c.in-Some.list.now (sym c.in-Some.ensures.value) c.requires

pub returns-clause-flows : goal.returns-clause-flows
returns-clause-flows c = changed-there c.args.slot c.args.slots.now c.args.sends.now (λ list. made_by c.args.which c.args.at list c.args.own) c.in-Some.list.now (sym c.in-Some.ensures.value) c.change_list.new.list c.change_list.result c.change_list.ensures

pub returns-clause-keeps : goal.returns-clause-keeps
returns-clause-keeps c = kept-there c.args.slot c.args.slots.now c.args.sends.now (λ list. made_by c.args.which c.args.at list c.args.own) c.in-Some.list.now (sym c.in-Some.ensures.value) c.change_list.new.list c.change_list.result c.change_list.ensures
