use Rattle.dsde_trace_words.proofs.Cutting.{place-is, place-no_column, place-no_line, place-uncut}
use Rattle.dsde_trace_words.proofs.words.place_of.Goals as goal

pub returns-in_default : goal.returns-in_default
returns-in_default c = place-uncut c.args.text.now c.in_default.ensures

pub returns-in_default-small_of : goal.returns-in_default-small_of
returns-in_default-small_of c = place-no_line c.args.text.now c.in-Some.line.now c.in-Some.column.now c.in-Some.ensures.0 c.in-Some.ensures.1 c.in_default-small_of.ensures

pub returns-in-Some-small_of-2 : goal.returns-in-Some-small_of-2
returns-in-Some-small_of-2 c =
    place-is c.args.text.now c.in-Some.line.now c.in-Some.column.now c.in-Some.ensures.0 c.in-Some.ensures.1 c.in-Some-small_of.line c.in-Some-small_of-2.column c.in-Some-small_of.ensures c.in-Some-small_of-2.ensures

pub returns-in-None : goal.returns-in-None
returns-in-None c = place-no_column c.args.text.now c.in-Some.line.now c.in-Some.column.now c.in-Some.ensures.0 c.in-Some.ensures.1 c.in-None.ensures
