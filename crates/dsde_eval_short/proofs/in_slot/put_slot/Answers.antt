use Rattle.std.proofs.Common.{sym}
use Rattle.dsde_language.specs.declared.operator.Builtin.TheVariants as builtin
use Rattle.dsde_language.specs.MeaningOperators.{of_three}
use Rattle.dsde_eval_short.proofs.InSlot.{may-change, changed-there, kept-there}
use Rattle.dsde_eval_short.proofs.in_slot.put_slot.Goals as goal

pub put-requires : goal.put-requires
put-requires c = may-change c.args.slot c.args.slots.now c.args.sends.now (λ list. of_three builtin.Put c.args.at list c.args.index.now c.args.own) c.in-Some.list.now (sym c.in-Some.ensures.value) c.requires

pub returns-clause-flows : goal.returns-clause-flows
returns-clause-flows c = changed-there c.args.slot c.args.slots.now c.args.sends.now (λ list. of_three builtin.Put c.args.at list c.args.index.now c.args.own) c.in-Some.list.now (sym c.in-Some.ensures.value) c.put.new.list c.put.result c.put.ensures

pub returns-clause-keeps : goal.returns-clause-keeps
returns-clause-keeps c = kept-there c.args.slot c.args.slots.now c.args.sends.now (λ list. of_three builtin.Put c.args.at list c.args.index.now c.args.own) c.in-Some.list.now (sym c.in-Some.ensures.value) c.put.new.list c.put.result c.put.ensures
