use Rattle.std.specs.Prelude.{Some, None}
use Rattle.std.proofs.Common.{codes}
use Rattle.dsde_language.specs.DeclaredModels.{top_outs, types_of}
use Rattle.dsde_trace_words.specs.Words.{IsPassed, NoneBefore, Precedes, passed_text}
use Rattle.dsde_trace_words.specs.lemmas.Behind.{behind-finds, not-behind-finds}
use Rattle.dsde_trace_reading.proofs.Telling.{out-reads}
use Rattle.dsde_trace_reading.proofs.parts.read_out.Goals as goal

pub returns-in_default : goal.returns-in_default
returns-in_default c =
    out-reads c.args.program.now c.args.text.now None (not-behind-finds (Precedes NoneBefore) (IsPassed (top_outs c.args.program.now) (types_of c.args.program.now)) (passed_text (top_outs c.args.program.now) (types_of c.args.program.now)) c.args.text.now (codes "root ") c.in_default.ensures.none)

pub returns-in-Some-2 : goal.returns-in-Some-2
returns-in-Some-2 c =
    out-reads c.args.program.now c.args.text.now (Some (c.in-Some-2.port, c.in-Some-2.value))
    (behind-finds (Precedes NoneBefore) (IsPassed (top_outs c.args.program.now) (types_of c.args.program.now)) (passed_text (top_outs c.args.program.now) (types_of c.args.program.now)) c.args.text.now (codes "root ") c.in-Some.rest.now (Some (c.in-Some-2.port, c.in-Some-2.value)) c.in-Some.ensures.some (rw (c.in-Some-2.is, c.outs_of.ensures, c.types_of.ensures.value) at c.in_ok-port.ensures))

pub returns-in-None : goal.returns-in-None
returns-in-None c =
    out-reads c.args.program.now c.args.text.now None
    (behind-finds (Precedes NoneBefore) (IsPassed (top_outs c.args.program.now) (types_of c.args.program.now)) (passed_text (top_outs c.args.program.now) (types_of c.args.program.now)) c.args.text.now (codes "root ") c.in-Some.rest.now None c.in-Some.ensures.some (rw (c.in-None.is, c.outs_of.ensures, c.types_of.ensures.value) at c.in_ok-port.ensures))
