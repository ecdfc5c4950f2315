use Rattle.dsde_trace_words.specs.Words.{NoneBefore, Spells}
use Rattle.dsde_trace_words.specs.lemmas.Searching.{NoneBelow}
use Rattle.dsde_trace_reading.specs.Parts.{IsStateOf, state_text}
use Rattle.dsde_trace_reading.proofs.searches.state_of.Given as goal

abbrev pub invariant-loop-number : goal.invariant-loop-number
invariant-loop-number l = NoneBelow NoneBefore (Spells (IsStateOf l.program l.executive) (state_text l.program) l.text) l.number
