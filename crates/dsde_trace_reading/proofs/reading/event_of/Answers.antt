use Rattle.std.specs.Prelude.{Some, None}
use Rattle.std.proofs.lemmas.Result.{IfOk-weaker}
use Rattle.dsde_trace_words.specs.lemmas.Pairing.{pair-no_first, pair-uncut}
use Rattle.dsde_trace_reading.proofs.Naming.{Lacks-line_word, line_word-inverts}
use Rattle.dsde_trace_reading.proofs.Telling.{line-reads, line-told}
use Rattle.dsde_trace_reading.proofs.reading.event_of.Goals as goal

pub returns-in_default : goal.returns-in_default
returns-in_default c =
    line-reads c.args.program.now c.args.line.now None (pair-uncut c.in_default.ensures)

pub returns-in-Some-line_word_of : goal.returns-in-Some-line_word_of
returns-in-Some-line_word_of c =
    IfOk-weaker c.event_behind.result _ _
    (line-told c.args.program.now c.args.line.now c.in-Some.front.now c.in-Some.rest.now c.in-Some.ensures.0 c.in-Some.ensures.1 c.in-Some-line_word_of.word
    (line_word-inverts c.in-Some.front.now (Some c.in-Some-line_word_of.word) c.in-Some-line_word_of.ensures))
    c.event_behind.ensures

pub returns-in-None : goal.returns-in-None
returns-in-None c =
    line-reads c.args.program.now c.args.line.now None (pair-no_first Lacks-line_word c.in-Some.front.now c.in-Some.rest.now c.in-Some.ensures.0 c.in-Some.ensures.1 (line_word-inverts c.in-Some.front.now None c.in-None.ensures))
