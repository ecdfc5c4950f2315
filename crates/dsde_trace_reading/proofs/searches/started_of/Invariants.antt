use Rattle.dsde_trace_words.specs.Words.{NoneBefore, Spells}
use Rattle.dsde_trace_words.specs.lemmas.Searching.{NoneBelow}
use Rattle.dsde_trace_reading.specs.Parts.{IsStarted, state_text}
use Rattle.dsde_trace_reading.proofs.searches.started_of.Given as goal

abbrev pub invariant-loop-number : goal.invariant-loop-number
invariant-loop-number l = NoneBelow NoneBefore (Spells (IsStarted l.program l.executive l.name) (state_text l.program) l.text) l.number
