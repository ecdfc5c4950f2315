use Rattle.dsde_trace_words.specs.Words.{NoneBefore, Precedes, Spells}
use Rattle.dsde_trace_words.specs.lemmas.Searching.{NoneBelow}
use Rattle.dsde_trace_reading.specs.Parts.{IsGot, got_text}
use Rattle.dsde_trace_reading.proofs.searches.got_of.Given as goal

abbrev pub invariant-loop-model : goal.invariant-loop-model
invariant-loop-model l = NoneBelow (Precedes NoneBefore) (Spells (IsGot l.program l.executive) (got_text l.program) l.text) l.model
