use Rattle.std.proofs.Common.{sym, subst}
use Rattle.std.specs.Prelude.{IfOk}
use Rattle.std.proofs.lemmas.Result.{IfOk-weaker}
use Rattle.dsde_trace_words.specs.declared.names.LineWord.{LineWord}
use Rattle.dsde_trace_reading.specs.Parts.{Reads}
use Rattle.dsde_trace_reading.proofs.reading.event_behind.Goals as goal

pub returns-in-Turn : goal.returns-in-Turn
returns-in-Turn c =
    subst (λ (word : LineWord). Reads c.args.program.now word c.args.text.now c.read_turn.result) (sym c.in-Turn.is) (c.read_turn.ensures c.args.program.now)

pub returns-in-Drop : goal.returns-in-Drop
returns-in-Drop c =
    subst (λ (word : LineWord). IfOk c.read_drop.result (Reads c.args.program.now word c.args.text.now)) (sym c.in-Drop.is)
    (IfOk-weaker c.read_drop.result _ _ (λ found reads. reads c.args.program.now) c.read_drop.ensures)

pub returns-in-End : goal.returns-in-End
returns-in-End c =
    subst (λ (word : LineWord). IfOk c.read_end.result (Reads c.args.program.now word c.args.text.now)) (sym c.in-End.is)
    (IfOk-weaker c.read_end.result _ _ (λ found reads. reads c.args.program.now) c.read_end.ensures)
