use Rattle.std.proofs.Common.{sym, refl, arith}
use Rattle.dsde_input_parser.specs.lemmas.Cuts.{cut_from_position, lacks_from_position}
use Rattle.dsde_input_parser.proofs.Times.{no_time_uncut, no_time, some_time}
use Rattle.dsde_input_parser.proofs.read_record.read_time.Goals as goal

pub returns-in_err-size : goal.returns-in_err-size
returns-in_err-size c = rw c.from_residual.ensures
    (no_time_uncut c.args.line.now (lacks_from_position 32 c.args.line.now (sym c.in_err-size.ensures)))

pub returns-in_err-time : goal.returns-in_err-time
returns-in_err-time c = rw c.from_residual-in_err-time.ensures
    (no_time c.args.line.now c.in_ok-size.size (cut_from_position 32 c.args.line.now c.in_ok-size.size (sym c.in_ok-size.ensures))
    c.in_err-time.ensures.none)

pub returns : goal.returns
returns c = rw c.then_some.ensures
    (some_time c.args.line.now c.in_ok-size.size c.in_ok-time.time
    (cut_from_position 32 c.args.line.now c.in_ok-size.size (sym c.in_ok-size.ensures))
    c.in_ok-time.ensures.some (omega arith) _ refl)
