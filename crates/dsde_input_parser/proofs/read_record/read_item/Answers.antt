use Rattle.std.proofs.Common.{◌+◌, sym, ap, Err}
use Rattle.dsde_input_parser.specs.lemmas.Cuts.{cut_from_position, lacks_from_position}
use Rattle.dsde_input_parser.proofs.Items.{no_item_uncut, no_item_port, no_item_value, some_item, port_read, rest_from}
use Rattle.dsde_input_parser.proofs.read_record.read_item.Goals as goal

pub returns-in_default : goal.returns-in_default
returns-in_default c =
    no_item_uncut c.args.ports.now c.args.types.now c.args.text.now
    (lacks_from_position 32 c.args.text.now (sym c.in_default.ensures))

pub returns-in_default-port_of : goal.returns-in_default-port_of
returns-in_default-port_of c =
    let cut = cut_from_position 32 c.args.text.now c.in-Some.size (sym c.in-Some.ensures) in
    no_item_port c.args.ports.now c.args.types.now c.requires.ports c.args.text.now c.in-Some.size cut (sym c.in_default-port_of.ensures)

pub returns-in-Ok : goal.returns-in-Ok
returns-in-Ok c =
    let cut = cut_from_position 32 c.args.text.now c.in-Some.size (sym c.in-Some.ensures) in
    some_item c.args.ports.now c.args.types.now c.requires.ports c.args.text.now c.in-Some.size cut
    c.in-Some-port_of.port c.index-as_slice-port.result (sym c.in-Some-port_of.ensures)
    (port_read c.as_slice.result.now c.args.ports.now c.in-Some-port_of.port c.index-as_slice-port.result c.as_slice.ensures c.index-as_slice-port.is)
    _ (rest_from (c.in-Some.size + 1) c.args.text.now)
    c.in-Ok.value c.in-Ok.more c.in-Ok.ensures.typed c.in-Ok.ensures.begins c.in-Ok.ensures.size c.in-Ok.ensures.only

pub returns-in-Err-NotAValue : goal.returns-in-Err-NotAValue
returns-in-Err-NotAValue c =
    let cut = cut_from_position 32 c.args.text.now c.in-Some.size (sym c.in-Some.ensures) in
    no_item_value c.args.ports.now c.args.types.now c.requires.ports c.args.text.now c.in-Some.size cut
    c.in-Some-port_of.port c.index-as_slice-port.result (sym c.in-Some-port_of.ensures)
    (port_read c.as_slice.result.now c.args.ports.now c.in-Some-port_of.port c.index-as_slice-port.result c.as_slice.ensures c.index-as_slice-port.is)
    _ (rest_from (c.in-Some.size + 1) c.args.text.now)
    (c.in-Err-NotAValue.ensures.none (ap Err c.in-Err-NotAValue.field-0-is))
