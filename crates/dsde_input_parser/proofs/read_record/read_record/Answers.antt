use Rattle.std.proofs.Common.{◌∙◌}
use Rattle.dsde_input_parser.proofs.Items.{rest_from}
use Rattle.dsde_input_parser.proofs.RecordLines.{no_time, no_items, with_items}
use Rattle.dsde_input_parser.proofs.read_record.read_record.Goals as goal

pub returns-in_default-clause-value : goal.returns-in_default-clause-value
returns-in_default-clause-value c =
    no_time c.args.ports.now c.args.types.now c.args.number c.args.line.now (c.record_is_spelled.ensures c.args.ports.now c.args.types.now c.requires.ports c.requires.types c.args.number c.args.line.now) c.in_default.ensures

pub returns-in_default-2-clause-value : goal.returns-in_default-2-clause-value
returns-in_default-2-clause-value c =
    no_items c.args.ports.now c.args.types.now c.args.number c.args.line.now (c.record_is_spelled.ensures c.args.ports.now c.args.types.now c.requires.ports c.requires.types c.args.number c.args.line.now) c.in-Some.time c.in-Some.size c.in-Some.ensures
    (λ items are same. let found = c.in_ok-items.ensures.only items are (rest_from c.in-Some.size c.args.line.now ∙ same) in cc)

pub returns-clause-value : goal.returns-clause-value
returns-clause-value c =
    let read = rw (c.in-Some-2.is, rest_from c.in-Some.size c.args.line.now) at c.in_ok-items.ensures in
    with_items c.args.ports.now c.args.types.now c.args.number c.args.line.now (c.record_is_spelled.ensures c.args.ports.now c.args.types.now c.requires.ports c.requires.types c.args.number c.args.line.now) c.in-Some.time c.in-Some.size c.in-Some.ensures
    c.in-Some-2.items read.spelled.0 read.spelled.1 read.only
