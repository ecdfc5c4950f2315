use Rattle.std.proofs.Common.{option_copied}
use Rattle.dsde_eval.proofs.Vias.{via-option, via-sure, via-came, via-typed}
use Rattle.dsde_eval.proofs.via.translate.Goals as goal

pub held-requires : goal.held-requires
held-requires c =
    via-option c.args.program.now c.args.via.0 (option_copied c.args.key) c.args.value.now c.via-code.result.now c.via-code.ensures c.in_ok-via_slots.field-0 c.in_ok-via_slots.ensures
    c.requires c.eval.result c.eval.ensures.means c.in-Ok.own c.in-Ok.is

pub returns-in-Ok-clause-means : goal.returns-in-Ok-clause-means
returns-in-Ok-clause-means c =
    via-came c.args.program.now c.args.via.0 (option_copied c.args.key) c.args.value.now c.via-code.result.now c.via-code.ensures c.in_ok-via_slots.field-0 c.in_ok-via_slots.ensures
    c.requires c.eval.result c.eval.ensures.means c.in-Ok.own c.held.result c.in-Ok.is c.held.ensures

pub returns-in-Ok-clause-typed : goal.returns-in-Ok-clause-typed
returns-in-Ok-clause-typed c =
    via-typed c.args.program.now c.args.via.0 (option_copied c.args.key) c.args.value.now c.via-code.result.now c.via-code.ensures c.in_ok-via_slots.field-0 c.in_ok-via_slots.ensures
    c.requires c.eval.result c.eval.ensures.means c.in-Ok.own c.held.result c.in-Ok.is c.held.ensures

pub unreachable-requires : goal.unreachable-requires
unreachable-requires c =
    via-sure c.args.program.now c.args.via.0 (option_copied c.args.key) c.args.value.now c.via-code.result.now c.via-code.ensures c.in_ok-via_slots.field-0 c.in_ok-via_slots.ensures
    c.requires c.eval.result c.eval.ensures.means c.in-Err-Fault.field-0-0 c.in-Err-Fault.field-0-1 (rw c.in-Err-Fault.field-0-is at c.in-Err-Fault.is)
